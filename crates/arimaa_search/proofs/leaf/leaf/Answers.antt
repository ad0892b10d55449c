use Rattle.std.proofs.Common.{◌≡◌, true, false, rules, sym, ◌∙◌, ap}
use Rattle.arimaa_board.specs.Board.{same_color}
use Rattle.arimaa_table.specs.Passes.{setting_of}
use Rattle.arimaa_model.specs.Results.{next}
use Rattle.arimaa_model.specs.Wins.{is_nil}
use Rattle.arimaa_search.proofs.Leaves.{own_leaf, other_leaf, not-some}
use Rattle.arimaa_search.proofs.leaf.leaf.Goals as goal

pub returns-then-eq : goal.returns-then-eq
returns-then-eq c =
    let a = (setting_of c.args.table.now).attacker in let barred = (setting_of c.args.table.now).barred in
    let same : c.eq.result ≡ same_color c.args.p.now.side c.attacker.result = search rules in
    let own : same_color c.args.p.now.side a ≡ true = ap (same_color c.args.p.now.side) (sym c.attacker.ensures) ∙ (sym same ∙ c.if-eq.true) in
    sym (own_leaf a barred c.args.p.now c.requires own)

pub returns : goal.returns
returns c =
    let a = (setting_of c.args.table.now).attacker in let barred = (setting_of c.args.table.now).barred in
    let same : c.eq.result ≡ same_color c.args.p.now.side c.attacker.result = search rules in
    let other : same_color c.args.p.now.side a ≡ false = ap (same_color c.args.p.now.side) (sym c.attacker.ensures) ∙ (sym same ∙ c.if-eq.false) in
    not-some c.has_next.result (next c.barred.result.now c.args.p.now) c.has_next.ensures ∙ (ap (λ qs. is_nil (next qs c.args.p.now)) c.barred.ensures ∙ sym (other_leaf a barred c.args.p.now c.requires other))
