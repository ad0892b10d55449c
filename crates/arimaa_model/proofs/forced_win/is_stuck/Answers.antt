use Rattle.std.proofs.Common.{◌≡◌, true, sym, ◌∙◌, ap}
use Rattle.std.specs.Prelude.{not}
use Rattle.std.specs.List.{list_any}
use Rattle.arimaa_model.specs.Results.{stands_in, first_occurrences}
use Rattle.arimaa_model.specs.Plain.{positions_reached}
use Rattle.arimaa_model.proofs.Lemmas.Distinct.{near-next}
use Rattle.std.proofs.Common.{[]}
use Rattle.arimaa_model.proofs.forced_win.is_stuck.Goals as goal

pub returns-then-has_free : goal.returns-then-has_free
returns-then-has_free c =
    let near : c.deref.result.now ≡ first_occurrences [] (positions_reached c.args.p.now [] 1) = c.deref.ensures.value ∙ (c.in_ok-extend.ensures ∙ ap (λ l. first_occurrences l (positions_reached c.args.p.now [] 1)) c.new-near.ensures.items) in
    let some : list_any (λ q. not (stands_in c.args.barred.now q)) c.deref.result.now ≡ true = sym c.has_free.ensures ∙ c.if-has_free.true in
    sym (near-next c.args.barred.now c.args.p.now (ap (list_any (λ q. not (stands_in c.args.barred.now q))) (sym near) ∙ some))
