use Rattle.std.proofs.Common.{◌≡◌, ◌∙◌, ◌-◌, sym, ap, List, length}
use Rattle.std.specs.List.{slice_get}
use Rattle.arimaa_board.specs.declared.position.Position.{Position}
use Rattle.arimaa_history.proofs.Lemmas.Present.{present-last}
use Rattle.arimaa_history.proofs.history.History.last.Goals as goal

pub returns : goal.returns
returns c =
    let items : c.deref.result.now ≡ c.args.self.now = c.deref.ensures.value ∙ c.self.view_is in
    c.copied.ensures
    ∙ (c.last.ensures.value ∙ (ap (λ (h : List Position). slice_get h (length h - 1)) items ∙ sym (present-last c.args.self.now)))
