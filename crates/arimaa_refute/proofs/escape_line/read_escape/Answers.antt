use Rattle.std.proofs.Common.{◌≡◌, ◌∙◌, [], ◌∷◌, sym, subst, refl, arith}
use Rattle.std.specs.Fmt.{decimal}
use Rattle.arimaa_board.specs.Piece.{other_color}
use Rattle.arimaa_notation.specs.Items.{items_of, IsFirstItem}
use Rattle.arimaa_notation.proofs.Lemmas.ItemLaws.{items-first}
use Rattle.arimaa_strategy.proofs.Lemmas.EntryLines.{rank_of}
use Rattle.arimaa_refute.specs.Escapes.{entry_of}
use Rattle.arimaa_refute.proofs.escape_line.read_escape.Goals as goal

pub returns-in_default-clause-none : goal.returns-in_default-clause-none
returns-in_default-clause-none c = λ e h.
    let both : decimal e.depth ∷ items_of h.entry.rest ≡ [] = sym (items-first c.args.line.now (decimal e.depth) h.entry.rest h.entry.rank) ∙ c.in_default.ensures.none in
    cc

pub returns-in_default-read_depth-clause-none : goal.returns-in_default-read_depth-clause-none
returns-in_default-read_depth-clause-none c = λ e h.
    let parts = rank_of c.args.line.now c.in-Some.item.now c.in-Some.rest.now (other_color c.args.attacker) (entry_of e) c.in-Some.ensures.first h.entry in
    c.in_default-read_depth.not-Some e.depth ((c.read_depth.ensures e.depth).1 (h.depth.deep, h.depth.small, parts.0))

pub returns-in_default-read_board_and_turn-clause-none :
    goal.returns-in_default-read_board_and_turn-clause-none
returns-in_default-read_board_and_turn-clause-none c = λ e h.
    let parts = rank_of c.args.line.now c.in-Some.item.now c.in-Some.rest.now (other_color c.args.attacker) (entry_of e) c.in-Some.ensures.first h.entry in
    c.in_default-read_board_and_turn.ensures.none e.position.board e.turn parts.1

pub returns-clause-form : goal.returns-clause-form
returns-clause-form c =
    let depth = (c.in-Some-read_depth.ensures c.in-Some-read_depth.depth).0 refl in
    record {
      entry = record {
        rest = c.in-Some.rest.now;
        rank = subst (λ z. IsFirstItem c.args.line.now z c.in-Some.rest.now) depth.2 c.in-Some.ensures.first;
        small = omega (arith, depth.1);
        side = c.other.ensures;
        play = c.in-Some-read_board_and_turn.ensures.form;
      };
      depth = record { deep = depth.0; small = depth.1 };
    }
