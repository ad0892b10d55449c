use Rattle.std.proofs.Common.{◌≡◌, ◌∙◌, ap, sym, subst, List}
use Rattle.arimaa_board.specs.declared.position.Position.{Position}
use Rattle.arimaa_model.specs.Members.{AreDistinct}
use Rattle.arimaa_model.specs.Results.{stands_in}
use Rattle.arimaa_model.specs.Game.{barred_by}
use Rattle.arimaa_model.proofs.Lemmas.Barring.{barred-distinct, barred-twice, twice-barred}
use Rattle.arimaa_history.proofs.history.History.barred.Goals as goal

pub returns : goal.returns
returns c =
    let h : List Position = c.args.self.now in
    let value : c.self.inside.barred ≡ barred_by h = (c.self.invariant.barring ∙ ap barred_by c.self.view_is) in
    record {
      value = value;
      twice = λ q. (λ stands. barred-twice h q (ap (λ (qs : List Position). stands_in qs q) (sym value) ∙ stands), λ many. ap (λ (qs : List Position). stands_in qs q) value ∙ twice-barred h q many);
      distinct = subst AreDistinct (sym value) (barred-distinct h);
    }
