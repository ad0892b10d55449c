use Rattle.std.proofs.Common.{rules, ◌≡◌, ℕ, suc, Bool, Result, length, sym, ◌∙◌, ap, subst}
use Rattle.std.specs.Prelude.{IfOk, IfErr}
use Rattle.arimaa_board.specs.Board.{same_color}
use Rattle.arimaa_board.specs.declared.position.Position.{Position}
use Rattle.arimaa_model.specs.Members.{Stands}
use Rattle.arimaa_model.specs.Results.{next}
use Rattle.arimaa_model.specs.Wins.{wins}
use Rattle.arimaa_forced.specs.Search.{looked_at}
use Rattle.arimaa_jobs.specs.Seats.{view}
use Rattle.arimaa_pool.specs.declared.stop.Stop.{Stop}
use Rattle.arimaa_pool.specs.Stops.{IsStop}
use Rattle.arimaa_pool.specs.Terms.{Terms}
use Rattle.arimaa_pool.proofs.Firsts.{one_segment}
use Rattle.arimaa_pool.proofs.HandedOn.{stop_fails}
use Rattle.arimaa_pool.proofs.JobLaws.{heard-verdict, heard-stop}
use Rattle.arimaa_pool.proofs.depths.ask_jobs.Goals as goal

pub returns-clause-verdict : goal.returns-clause-verdict
returns-clause-verdict g c =
    let t : Terms = c.args.crew.now.terms in
    let p : Position = c.args.p.now in
    let many : c.live-count.result ≡ length (next t.barred p) = c.live-count.ensures.count ∙ ap length (one_segment c.args.list.now.segments (next t.barred p) c.requires.list) in
    let jobs : (view c.run.new.whole).count ≡ c.live-count.result = c.run.ensures.seat.1 ∙ c.in_ok-jobs.ensures.count in
    let side : c.eq-own.result ≡ same_color p.side c.attacker.result = search rules in
    let mover : c.eq-own.result ≡ same_color p.side t.attacker = side ∙ ap (same_color p.side) (c.attacker.ensures ∙ ap (λ (u : Terms). u.attacker) c.run.ensures.terms) in
    let heard = heard-verdict t c.args.depth p c.requires.undecided (view c.run.new.whole) c.least-least.result c.in_ok-stopped.stopped
    (c.least-least.ensures.whole c.in_ok-stopped.ensures.weight) c.in_ok-stopped.ensures.ended c.least-least.ensures.saw.1 (jobs ∙ many) c.in_ok-stopped.ensures.worked
    c.answer_of.result c.live-count.result c.eq-own.result c.answer_of.ensures (sym jobs) mover in
    let F : Result Bool Stop → Type 0 = λ x. IfOk x (λ b. b ≡ wins t.attacker t.barred (suc c.args.depth) p) in
    subst F c.in_ok-answer_of.was heard

pub returns-in_err-answer_of-clause-failure : goal.returns-in_err-answer_of-clause-failure
returns-in_err-answer_of-clause-failure g c =
    let t : Terms = c.args.crew.now.terms in
    let p : Position = c.args.p.now in
    let many : c.live-count.result ≡ length (next t.barred p) = c.live-count.ensures.count ∙ ap length (one_segment c.args.list.now.segments (next t.barred p) c.requires.list) in
    let jobs : (view c.run.new.whole).count ≡ c.live-count.result = c.run.ensures.seat.1 ∙ c.in_ok-jobs.ensures.count in
    let side : c.eq-own.result ≡ same_color p.side c.attacker.result = search rules in
    let mover : c.eq-own.result ≡ same_color p.side t.attacker = side ∙ ap (same_color p.side) (c.attacker.ensures ∙ ap (λ (u : Terms). u.attacker) c.run.ensures.terms) in
    let heard = heard-stop t c.args.depth p c.requires.undecided (view c.run.new.whole) c.least-least.result c.in_ok-stopped.stopped
    (c.least-least.ensures.whole c.in_ok-stopped.ensures.weight) c.in_ok-stopped.ensures.ended c.least-least.ensures.saw.1 (jobs ∙ many) c.in_ok-stopped.ensures.worked
    c.answer_of.result c.live-count.result c.eq-own.result c.answer_of.ensures (sym jobs) mover in
    let K : Position → ℕ → Type 0 = λ q j. (j ≡ c.args.depth) × Stands (looked_at t.attacker t.barred c.args.depth p) q in
    let F : Result Bool Stop → Type 0 = λ x. IfErr x (IsStop t K) in
    stop_fails c.from_residual-in_err-answer_of.result c.in_err-answer_of.field-0.0 t K c.from_residual-in_err-answer_of.ensures.1 (subst F c.in_err-answer_of.was heard)
