use Rattle.std.proofs.Common.{◌≡◌, suc, ◌-◌, Bool, false, None, sym, ◌∙◌, ap, arith, rules, []}
use Rattle.std.specs.Prelude.{not}
use Rattle.std.proofs.lemmas.Result.{IfOk-weaker}
use Rattle.arimaa_board.specs.Board.{same_color}
use Rattle.arimaa_board.specs.declared.position.Position.{Position}
use Rattle.arimaa_model.specs.DecidedPositions.{decided}
use Rattle.arimaa_model.specs.Results.{next}
use Rattle.arimaa_model.specs.Wins.{is_nil, wins, wins_among}
use Rattle.arimaa_model.proofs.Lemmas.WinsLaws.{wins-decided, wins-stuck, wins-end, wins-deeper, is_nil-true}
use Rattle.arimaa_model.proofs.forced_win.+wins.Goals as goal

pub plain_wins-returns-in-Some : goal.plain_wins-returns-in-Some
plain_wins-returns-in-Some t c =
    let same : c.eq.result ≡ same_color c.in-Some.ending.winner c.args.attacker = search rules in
    same ∙ sym (wins-decided c.args.attacker c.args.barred.now c.args.p.now c.args.depth c.in-Some.ending (sym c.decided.ensures ∙ c.in-Some.is))

pub plain_wins-returns-then-branch : goal.plain_wins-returns-then-branch
plain_wins-returns-then-branch t c =
    let other : c.ne.result ≡ not (same_color c.args.p.now.side c.args.attacker) = search rules in
    let undecided : decided c.args.p.now ≡ None = sym c.decided.ensures ∙ c.in_default.is in
    let none : next c.args.barred.now c.args.p.now ≡ [] = is_nil-true (next c.args.barred.now c.args.p.now) (sym c.in_ok-is_stuck.ensures ∙ c.if-branch.true) in
    other ∙ sym (wins-stuck c.args.attacker c.args.barred.now c.args.p.now c.args.depth undecided none)

pub plain_wins-returns-then-depth-eq0 : goal.plain_wins-returns-then-depth-eq0
plain_wins-returns-then-depth-eq0 t c =
    let undecided : decided c.args.p.now ≡ None = sym c.decided.ensures ∙ c.in_default.is in
    let some : is_nil (next c.args.barred.now c.args.p.now) ≡ false = sym c.in_ok-is_stuck.ensures ∙ c.if-branch.false in
    rw c.if-depth-eq0.true (sym (wins-end c.args.attacker c.args.barred.now c.args.p.now undecided some))

pub plain_wins-returns : goal.plain_wins-returns
plain_wins-returns t c =
    let undecided : decided c.args.p.now ≡ None = sym c.decided.ensures ∙ c.in_default.is in
    let some : is_nil (next c.args.barred.now c.args.p.now) ≡ false = sym c.in_ok-is_stuck.ensures ∙ c.if-branch.false in
    let side : c.eq-own.result ≡ same_color c.args.p.now.side c.args.attacker = search rules in
    let list = c.deref.ensures.value ∙ c.in_ok-list.ensures in
    let next_depth : suc (c.args.depth - 1) ≡ c.args.depth = omega arith in
    let deeper = wins-deeper c.args.attacker c.args.barred.now c.args.p.now (c.args.depth - 1) undecided some in
    let F : Position → Bool = wins c.args.attacker c.args.barred.now (c.args.depth - 1) in
    let same : wins_among c.eq-own.result F c.deref.result.now ≡ wins c.args.attacker c.args.barred.now c.args.depth c.args.p.now =
    (λ i. wins_among (side i) F (list i)) ∙ (sym deeper ∙ ap (λ n. wins c.args.attacker c.args.barred.now n c.args.p.now) next_depth) in
    IfOk-weaker c.wins_among.result (λ r. r ≡ wins_among c.eq-own.result F c.deref.result.now) (λ r. r ≡ wins c.args.attacker c.args.barred.now c.args.depth c.args.p.now)
    (λ r h. h ∙ same) c.wins_among.ensures
