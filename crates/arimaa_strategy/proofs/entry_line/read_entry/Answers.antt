use Rattle.std.proofs.Common.{◌≡◌, ◌∙◌, [], ◌∷◌, sym, subst, refl}
use Rattle.std.specs.Fmt.{decimal}
use Rattle.arimaa_notation.specs.Items.{items_of, IsFirstItem}
use Rattle.arimaa_notation.proofs.Lemmas.ItemLaws.{items-first}
use Rattle.arimaa_strategy.proofs.Lemmas.EntryLines.{rank_of}
use Rattle.arimaa_strategy.proofs.entry_line.read_entry.Goals as goal

pub returns-in_default-clause-none : goal.returns-in_default-clause-none
returns-in_default-clause-none c = λ e h.
    let both : decimal e.rank ∷ items_of h.rest ≡ [] = sym (items-first c.args.line.now (decimal e.rank) h.rest h.rank) ∙ c.in_default.ensures.none in
    cc

pub returns-in_default-read_rank-clause-none : goal.returns-in_default-read_rank-clause-none
returns-in_default-read_rank-clause-none c = λ e h.
    let parts = rank_of c.args.line.now c.in-Some.item.now c.in-Some.rest.now c.args.attacker e c.in-Some.ensures.first h in
    c.in_default-read_rank.not-Some e.rank ((c.read_rank.ensures e.rank).1 (h.small, parts.0))

pub returns-in_default-read_board_and_turn-clause-none :
    goal.returns-in_default-read_board_and_turn-clause-none
returns-in_default-read_board_and_turn-clause-none c = λ e h.
    let parts = rank_of c.args.line.now c.in-Some.item.now c.in-Some.rest.now c.args.attacker e c.in-Some.ensures.first h in
    c.in_default-read_board_and_turn.ensures.none e.position.board e.turn parts.1

pub returns-clause-form : goal.returns-clause-form
returns-clause-form c =
    let rank = (c.in-Some-read_rank.ensures c.in-Some-read_rank.rank).0 refl in
    record {
      rest = c.in-Some.rest.now;
      rank = subst (λ z. IsFirstItem c.args.line.now z c.in-Some.rest.now) rank.1 c.in-Some.ensures.first;
      small = rank.0;
      side = refl;
      play = c.in-Some-read_board_and_turn.ensures.form;
    }
