use Rattle.std.proofs.Common.{ℕ, subst}
use Rattle.std.specs.Prelude.{IfOk}
use Rattle.arimaa_board.specs.declared.position.Position.{Position}
use Rattle.arimaa_refute.specs.Refutations.{Terms, IsRefuted}
use Rattle.arimaa_refute.proofs.RefutationLaws.{below-root}
use Rattle.arimaa_refute.proofs.refutation.answer_of.Goals as goal

pub answer-requires-clause-below : goal.answer-requires-clause-below
answer-requires-clause-below c = below-root c.args.asker.now c.args.n c.args.p.now c.requires.root c.requires.turns

pub returns-in-Err : goal.returns-in-Err
returns-in-Err c =
    let t : Terms = c.args.asker.now in
    let F : Position → Type 0 = λ x. IfOk c.answer_on.result (IsRefuted t.attacker t.barred t.budget t.room x c.args.n) in
    let G : ℕ → Type 0 = λ m. IfOk c.answer_on.result (IsRefuted t.attacker t.barred t.budget t.room t.root m) in
    subst F c.requires.root (subst G c.requires.turns (c.answer_on.ensures t c.in-Err.ensures.failure))
