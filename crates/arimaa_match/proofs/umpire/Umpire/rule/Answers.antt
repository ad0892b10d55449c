use Rattle.std.proofs.Common.{ap, refl, sym}
use Rattle.std.specs.Prelude.{not}
use Rattle.arimaa_notation.proofs.Lemmas.SetupRule.{setup_named}
use Rattle.arimaa_match.proofs.umpire.Umpire.rule.Goals as goal

pub book_setup-requires : goal.book_setup-requires
book_setup-requires c =
    let named = setup_named c.args.words.now c.self.inside.due.side c.in-Ok.setup
    (sym c.in-Ok.ensures.value) in
    c.in-Ok-place.ensures _ refl refl (sym named.side)

pub book_turn-requires : goal.book_turn-requires
book_turn-requires c = ap not c.make.ensures.under_way.begun
