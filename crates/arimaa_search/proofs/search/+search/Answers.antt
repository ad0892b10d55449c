use Rattle.std.proofs.Common.{rules, ◌≡◌, ℕ, suc, ◌+◌, ◌≤◌, ◌||◌, ◌++◌, Bool, true, false, cond, not, Option, Some, Err, List, [], ◌∷◌, drop, length, refl, sym, ap, subst, ◌∙◌, arith}
use mathlib.Core.Bool.{beq}
use Rattle.std.specs.Prelude.{IfNone}
use Rattle.std.specs.List.{slice_get, list_any}
use Rattle.std.proofs.lemmas.Result.{err_from_is_err_and}
use Rattle.arimaa_board.specs.declared.piece.Color.{Color}
use Rattle.arimaa_board.specs.Board.{same_color}
use Rattle.arimaa_board.specs.declared.position.Position.{Position}
use Rattle.arimaa_model.specs.Results.{next}
use Rattle.arimaa_model.specs.Wins.{wins}
use Rattle.arimaa_model.proofs.Lemmas.WinsLaws.{wins-decided}
use Rattle.arimaa_region.specs.Segments.{live_of, top}
use Rattle.arimaa_table.specs.Passes.{setting_of, lines_of, steps_of}
use Rattle.arimaa_forced.specs.Search.{is_decisive, cost}
use Rattle.arimaa_forced.proofs.Lemmas.Deeper.{cost-some, crowd-deeper}
use Rattle.arimaa_forced.proofs.Lemmas.Midst.{Midst, midst-start, midst-more, midst-paid}
use Rattle.arimaa_search.specs.PaidAnswers.{Answered}
use Rattle.arimaa_search.proofs.Lemmas.Lists.{after_first, live-length, first_left, none_left, part_length}
use Rattle.arimaa_search.proofs.Looking.{decisive-answer, end-answer, stopped-answer, early-answer, midst-past, decisive-by}
use Rattle.arimaa_search.proofs.WonPositions.{none_won, after_part}
use Rattle.arimaa_search.proofs.Tracing.{Tracing, tracing_start, tracing_more, tracing_past, tracing_decisive, tracing_end}
use Rattle.arimaa_search.proofs.search.+search.Goals as goal
use Rattle.arimaa_results.proofs.Lemmas.Opened.{two_parts}

pub open_up-returns-then-left-eq0-clause-answer : goal.open_up-returns-then-left-eq0-clause-answer
open_up-returns-then-left-eq0-clause-answer t c =
    let some = cost-some (setting_of c.args.table.now).attacker (setting_of c.args.table.now).barred c.args.p.now c.args.depth in
    (omega arith, c.if-left-eq0.true)

pub open_up-returns-in-Some-clause-answer : goal.open_up-returns-in-Some-clause-answer
open_up-returns-in-Some-clause-answer t c =
    let a = (setting_of c.args.table.now).attacker in let barred = (setting_of c.args.table.now).barred in
    let some = cost-some a barred c.args.p.now c.args.depth in
    let same : c.eq.result ≡ same_color c.in-Some.ending.winner c.attacker.result = search rules in
    let won = wins-decided a barred c.args.p.now c.args.depth c.in-Some.ending (sym c.decided.ensures ∙ c.in-Some.is) in
    (same ∙ (ap (same_color c.in-Some.ending.winner) c.attacker.ensures ∙ sym won), record { falls = omega arith; most = omega arith })

pub open_up-returns-then-depth-eq0-clause-answer : goal.open_up-returns-then-depth-eq0-clause-answer
open_up-returns-then-depth-eq0-clause-answer t c =
    let a = (setting_of c.args.table.now).attacker in let barred = (setting_of c.args.table.now).barred in
    let some = cost-some a barred c.args.p.now c.args.depth in
    (c.leaf.ensures ∙ ap (λ n. wins a barred n c.args.p.now) (sym c.if-depth-eq0.true), record { falls = omega arith; most = omega arith })

pub look_on-loop-place-init : goal.look_on-loop-place-init
look_on-loop-place-init t c =
    let a = (setting_of c.args.table.now).attacker in let barred = (setting_of c.args.table.now).barred in
    let xs = live_of c.args.region.now.segments in
    let part = top c.args.region.now.segments in
    let rest = drop (length part) (next barred c.args.p.now) in
    let joined : next barred c.args.p.now ≡ part ++ rest = c.requires.listed.begun in
    let later : drop (c.args.first + 1) xs ≡ drop 1 part = after_first c.args.region.now.segments part c.args.first (two_parts c.args.region.now.segments c.requires.open) c.requires.first in
    let after : drop (c.args.first + 1) xs ++ rest ≡ drop 1 (next barred c.args.p.now) = ap (λ l. l ++ rest) later ∙ after_part part rest (next barred c.args.p.now) joined c.requires.some in
    record {
      own_pass = c.requires.pass;
      later = λ i. (omega arith, λ _. refl);
      grown = λ i. omega arith;
      segments = refl;
      room = refl;
      spent = omega arith;
      midst = λ reply past. subst (λ l. Midst a barred c.args.depth c.args.p.now l (c.args.left.now + cost a barred c.args.depth reply) c.args.left.now) (sym after) (midst-past a barred c.args.depth c.args.p.now reply c.args.left.now past);
      ends = λ reply past none. c.requires.listed.whole (none_won a barred c.args.depth c.args.p.now reply part rest past joined (sym (ap (list_any (is_decisive a barred c.args.depth c.args.p.now)) later) ∙ none));
      tracing = λ reply began past up stepped. subst (Tracing a barred c.args.depth c.args.p.now (lines_of c.args.table.now) began (steps_of c.args.pass.now)) (sym after) (tracing_past a barred c.args.depth c.args.p.now (lines_of c.args.table.now) reply began (steps_of c.args.pass.now) past up stepped);
    }

pub look_on-returns-in_err-won-clause-answer : goal.look_on-returns-in_err-won-clause-answer
look_on-returns-in_err-won-clause-answer t c =
    let a = (setting_of c.args.table.now).attacker in let barred = (setting_of c.args.table.now).barred in
    λ reply past.
    let xs = live_of c.args.region.now.segments in
    let raised = err_from_is_err_and c.from_residual.result c.from_residual.ensures.1 in
    let same : c.ask.result ≡ c.from_residual.result = c.in_err-won.was ∙ (sym (ap Err raised.2) ∙ sym raised.1) in
    let there : slice_get xs c.loop-place.place ≡ Some c.get-q.result = ap (λ s. slice_get (live_of s) c.loop-place.place) (sym c.loop-place.invariant.segments) ∙ c.get-q.ensures in
    let m = subst (λ l. Midst a barred c.args.depth c.args.p.now (l ++ (drop (length (top c.args.region.now.segments)) (next barred c.args.p.now))) (c.args.left.now + cost a barred c.args.depth reply) c.loop-place.left) (first_left xs c.loop-place.place c.get-q.result there) (c.loop-place.invariant.midst reply past) in
    let live : length (live_of c.loop-place.region.segments) ≡ c.args.first + length (top c.args.region.now.segments) =
    ap (λ s. length (live_of s)) c.loop-place.invariant.segments ∙ live-length c.args.region.now.segments (top c.args.region.now.segments) c.args.first (two_parts c.args.region.now.segments c.requires.open) c.requires.first in
    let held : length (live_of c.loop-place.region.segments) ≤ c.args.first + length (next barred c.args.p.now) =
    part_length (top c.args.region.now.segments) (drop (length (top c.args.region.now.segments)) (next barred c.args.p.now)) (next barred c.args.p.now) _ c.args.first c.requires.listed.begun live in
    subst (λ r. Answered a barred (suc c.args.depth) c.args.p.now c.args.region.now.room c.args.first (c.args.left.now + cost a barred c.args.depth reply + 1) c.ask.new.left r) same
    (stopped-answer a barred c.args.depth c.args.p.now c.args.region.now.room c.args.first c.ask.result c.in_err-won.field-0.0 c.loop-place.region.room _ c.get-q.result _ (c.args.left.now + cost a barred c.args.depth reply) c.loop-place.left c.ask.new.left m c.requires.undecided c.in_err-won.was c.loop-place.invariant.room held c.ask.ensures.answer)

-- the verdict that was heard is that of the first position left
verdict-ends : (a : Color) (barred : List Position) (depth : ℕ) (p q : Position) (own won ends : Bool) → own ≡ same_color p.side a → won ≡ wins a barred depth q → beq won own ≡ ends → is_decisive a barred depth p q ≡ ends
verdict-ends a barred depth p q own won ends mine heard is = (λ i. cond (sym mine i) (sym heard i) (not (sym heard i))) ∙ (decisive-by own won ∙ is)

pub look_on-returns-then-won-own-clause-replies : goal.look_on-returns-then-won-own-clause-replies
look_on-returns-then-won-own-clause-replies t c =
    let a = (setting_of c.args.table.now).attacker in let barred = (setting_of c.args.table.now).barred in
    λ reply began past up here.
    let xs = live_of c.args.region.now.segments in
    let side : c.eq-own.result ≡ same_color c.args.p.now.side c.attacker.result = search rules in
    let ends = verdict-ends a barred c.args.depth c.args.p.now c.get-q.result c.eq-own.result c.in_ok-won.won true (side ∙ ap (same_color c.args.p.now.side) c.attacker.ensures) c.in_ok-won.ensures.answer.0 c.if-won-own.true in
    let there : slice_get xs c.loop-place.place ≡ Some c.get-q.result = ap (λ s. slice_get (live_of s) c.loop-place.place) (sym c.loop-place.invariant.segments) ∙ c.get-q.ensures in
    let trace = subst (λ l. Tracing a barred c.args.depth c.args.p.now (lines_of c.args.table.now) began (steps_of c.loop-place.pass) (l ++ (drop (length (top c.args.region.now.segments)) (next barred c.args.p.now)))) (first_left xs c.loop-place.place c.get-q.result there) (c.loop-place.invariant.tracing reply began past up here) in
    tracing_decisive a barred c.args.depth c.args.p.now (lines_of c.args.table.now) c.get-q.result _ began (steps_of c.loop-place.pass) (steps_of c.ask.new.pass) trace c.ask.ensures.grown c.ask.ensures.here ends

pub look_on-returns-then-won-own-clause-answer : goal.look_on-returns-then-won-own-clause-answer
look_on-returns-then-won-own-clause-answer t c =
    let a = (setting_of c.args.table.now).attacker in let barred = (setting_of c.args.table.now).barred in
    λ reply past.
    let xs = live_of c.args.region.now.segments in
    let side : c.eq-own.result ≡ same_color c.args.p.now.side c.attacker.result = search rules in
    let mine = side ∙ ap (same_color c.args.p.now.side) c.attacker.ensures in
    let ends = verdict-ends a barred c.args.depth c.args.p.now c.get-q.result c.eq-own.result c.in_ok-won.won true mine c.in_ok-won.ensures.answer.0 c.if-won-own.true in
    let there : slice_get xs c.loop-place.place ≡ Some c.get-q.result = ap (λ s. slice_get (live_of s) c.loop-place.place) (sym c.loop-place.invariant.segments) ∙ c.get-q.ensures in
    let m = subst (λ l. Midst a barred c.args.depth c.args.p.now (l ++ (drop (length (top c.args.region.now.segments)) (next barred c.args.p.now))) (c.args.left.now + cost a barred c.args.depth reply) c.loop-place.left) (first_left xs c.loop-place.place c.get-q.result there) (c.loop-place.invariant.midst reply past) in
    let answer = decisive-answer a barred c.args.depth c.args.p.now c.args.region.now.room c.args.first c.get-q.result _ (c.args.left.now + cost a barred c.args.depth reply) c.loop-place.left c.ask.new.left m c.requires.undecided c.in_ok-won.ensures.answer.1 ends in
    (mine ∙ answer.0, answer.1)

pub look_on-loop-place-preserved : goal.look_on-loop-place-preserved
look_on-loop-place-preserved t c =
    let a = (setting_of c.args.table.now).attacker in let barred = (setting_of c.args.table.now).barred in
    let xs = live_of c.args.region.now.segments in
    let side : c.eq-own.result ≡ same_color c.args.p.now.side c.attacker.result = search rules in
    let goes = verdict-ends a barred c.args.depth c.args.p.now c.get-q.result c.eq-own.result c.in_ok-won.won false (side ∙ ap (same_color c.args.p.now.side) c.attacker.ensures) c.in_ok-won.ensures.answer.0 c.if-won-own.false in
    let there : slice_get xs c.loop-place.place ≡ Some c.get-q.result = ap (λ s. slice_get (live_of s) c.loop-place.place) (sym c.loop-place.invariant.segments) ∙ c.get-q.ensures in
    let here = first_left xs c.loop-place.place c.get-q.result there in
    let paid = c.in_ok-won.ensures.answer.1 in
    record {
      own_pass = search rules;
      later = search rules;
      grown = λ i. (let before = c.loop-place.invariant.grown i in let more = c.ask.ensures.grown i in omega arith);
      segments = search rules;
      room = search rules;
      spent = (let before = c.loop-place.invariant.spent in let falls = paid.falls in omega arith);
      midst = λ reply past.
          (let m = subst (λ l. Midst a barred c.args.depth c.args.p.now (l ++ (drop (length (top c.args.region.now.segments)) (next barred c.args.p.now))) (c.args.left.now + cost a barred c.args.depth reply) c.loop-place.left) here (c.loop-place.invariant.midst reply past) in
          midst-more a barred c.args.depth c.args.p.now c.get-q.result _ (c.args.left.now + cost a barred c.args.depth reply) c.loop-place.left c.ask.new.left m paid.falls paid.most goes);
      ends = λ reply past none.
          c.loop-place.invariant.ends reply past
          (ap (list_any (is_decisive a barred c.args.depth c.args.p.now)) here
          ∙ (ap (λ v. v || list_any (is_decisive a barred c.args.depth c.args.p.now) (drop (c.loop-place.place + 1) xs)) goes ∙ none));
      tracing = λ reply began past up stepped.
          (let trace = subst (λ l. Tracing a barred c.args.depth c.args.p.now (lines_of c.args.table.now) began (steps_of c.loop-place.pass) (l ++ (drop (length (top c.args.region.now.segments)) (next barred c.args.p.now)))) here (c.loop-place.invariant.tracing reply began past up stepped) in
          tracing_more a barred c.args.depth c.args.p.now (lines_of c.args.table.now) c.get-q.result _ began (steps_of c.loop-place.pass) (steps_of c.ask.new.pass) trace c.ask.ensures.grown c.ask.ensures.here goes);
    }

-- no position is left
past_end : (now old : List (List Position)) (place end : ℕ) → now ≡ old → end ≡ length (live_of now) → end ≤ place → drop place (live_of old) ≡ []
past_end now old place end same is past = none_left (live_of old) place end (is ∙ ap (λ s. length (live_of s)) same) past

pub look_on-returns-clause-replies : goal.look_on-returns-clause-replies
look_on-returns-clause-replies t c =
    let a = (setting_of c.args.table.now).attacker in let barred = (setting_of c.args.table.now).barred in
    λ reply began past up here.
    let last = past_end c.args.region.now.segments c.args.region.now.segments c.loop-place.place c.live-end.result refl c.live-end.ensures.count c.loop-place-test.false in
    let all : (drop (length (top c.args.region.now.segments)) (next barred c.args.p.now)) ≡ [] = c.loop-place.invariant.ends reply past (ap (list_any (is_decisive a barred c.args.depth c.args.p.now)) last) in
    let none : drop c.loop-place.place (live_of c.args.region.now.segments) ++ (drop (length (top c.args.region.now.segments)) (next barred c.args.p.now)) ≡ [] = (λ i. last i ++ all i) in
    tracing_end a barred c.args.depth c.args.p.now (lines_of c.args.table.now) began (steps_of c.loop-place.pass)
    (subst (Tracing a barred c.args.depth c.args.p.now (lines_of c.args.table.now) began (steps_of c.loop-place.pass)) none (c.loop-place.invariant.tracing reply began past up here))

pub look_on-returns-clause-answer : goal.look_on-returns-clause-answer
look_on-returns-clause-answer t c =
    let a = (setting_of c.args.table.now).attacker in let barred = (setting_of c.args.table.now).barred in
    λ reply past.
    let side : c.eq-own.result ≡ same_color c.args.p.now.side c.attacker.result = search rules in
    let mine = side ∙ ap (same_color c.args.p.now.side) c.attacker.ensures in
    let last = past_end c.args.region.now.segments c.args.region.now.segments c.loop-place.place c.live-end.result refl c.live-end.ensures.count c.loop-place-test.false in
    let all : (drop (length (top c.args.region.now.segments)) (next barred c.args.p.now)) ≡ [] = c.loop-place.invariant.ends reply past (ap (list_any (is_decisive a barred c.args.depth c.args.p.now)) last) in
    let none : drop c.loop-place.place (live_of c.args.region.now.segments) ++ (drop (length (top c.args.region.now.segments)) (next barred c.args.p.now)) ≡ [] = (λ i. last i ++ all i) in
    let m = subst (λ rest. Midst a barred c.args.depth c.args.p.now rest (c.args.left.now + cost a barred c.args.depth reply) c.loop-place.left) none (c.loop-place.invariant.midst reply past) in
    let answer = end-answer a barred c.args.depth c.args.p.now c.args.region.now.room c.args.first (c.args.left.now + cost a barred c.args.depth reply) c.loop-place.left m c.requires.undecided in
    (ap not mine ∙ answer.0, answer.1)

-- the first of the next positions, for the barred positions of the table
first-for : (now barred : List Position) (p q : Position) → now ≡ barred → next now p ≡ q ∷ drop 1 (next now p) → next barred p ≡ q ∷ drop 1 (next barred p)
first-for now barred p q same first = subst (λ (qs : List Position). next qs p ≡ q ∷ drop 1 (next qs p)) same first

none-for : (now barred : List Position) (p : Position) → now ≡ barred → next now p ≡ [] → next barred p ≡ []
none-for now barred p same none = ap (λ (qs : List Position). next qs p) (sym same) ∙ none

midst-first : (a : Color) (barred : List Position) (n : ℕ) (p q : Position) (left : ℕ) → next barred p ≡ q ∷ drop 1 (next barred p) → Midst a barred n p (q ∷ drop 1 (next barred p)) left left
midst-first a barred n p q left first = subst (λ (rest : List Position). Midst a barred n p rest left left) first (midst-start a barred n p left)

pub look_through-returns-in_default-clause-answer : goal.look_through-returns-in_default-clause-answer
look_through-returns-in_default-clause-answer t c =
    let a = (setting_of c.args.table.now).attacker in let barred = (setting_of c.args.table.now).barred in
    let side : c.eq-own.result ≡ same_color c.args.p.now.side c.attacker.result = search rules in
    let mine = side ∙ ap (same_color c.args.p.now.side) c.attacker.ensures in
    let empty = none-for c.barred-barred.result.now barred c.args.p.now c.barred-barred.ensures (subst (λ (o : Option Position). IfNone o (next c.barred-barred.result.now c.args.p.now ≡ [])) c.in_default.is c.first_reply.ensures.none) in
    let m = subst (λ (rest : List Position). Midst a barred c.args.depth c.args.p.now rest c.args.left.now c.args.left.now) empty (midst-start a barred c.args.depth c.args.p.now c.args.left.now) in
    let answer = end-answer a barred c.args.depth c.args.p.now c.args.region.now.room 0 c.args.left.now c.args.left.now m c.requires.undecided in
    (ap not mine ∙ answer.0, answer.1)

pub look_through-returns-in_err-won-clause-answer : goal.look_through-returns-in_err-won-clause-answer
look_through-returns-in_err-won-clause-answer t c =
    let a = (setting_of c.args.table.now).attacker in let barred = (setting_of c.args.table.now).barred in
    let live = length (live_of c.args.region.now.segments) in
    let raised = err_from_is_err_and c.from_residual.result c.from_residual.ensures.1 in
    let same : c.ask.result ≡ c.from_residual.result = c.in_err-won.was ∙ (sym (ap Err raised.2) ∙ sym raised.1) in
    let first = first-for c.barred-barred.result.now barred c.args.p.now c.in-Some.reply c.barred-barred.ensures c.in-Some.ensures.first in
    let m = midst-first a barred c.args.depth c.args.p.now c.in-Some.reply c.args.left.now first in
    subst (λ r. Answered a barred (suc c.args.depth) c.args.p.now c.args.region.now.room live (c.args.left.now + 1) c.ask.new.left r) same
    (early-answer a barred c.args.depth c.args.p.now c.args.region.now.room live c.ask.result c.in_err-won.field-0.0 c.in-Some.reply (drop 1 (next barred c.args.p.now)) c.args.left.now c.ask.new.left m c.requires.undecided c.in_err-won.was c.ask.ensures.answer)

pub look_through-returns-then-won-own-clause-replies : goal.look_through-returns-then-won-own-clause-replies
look_through-returns-then-won-own-clause-replies t c =
    let a = (setting_of c.args.table.now).attacker in let barred = (setting_of c.args.table.now).barred in
    let side : c.eq-own.result ≡ same_color c.args.p.now.side c.attacker.result = search rules in
    let ends = verdict-ends a barred c.args.depth c.args.p.now c.in-Some.reply c.eq-own.result c.in_ok-won.won true (side ∙ ap (same_color c.args.p.now.side) c.attacker.ensures) c.in_ok-won.ensures.answer.0 c.if-won-own.true in
    let first = first-for c.barred-barred.result.now barred c.args.p.now c.in-Some.reply c.barred-barred.ensures c.in-Some.ensures.first in
    let start = steps_of c.args.pass.now in
    let trace = subst (Tracing a barred c.args.depth c.args.p.now (lines_of c.args.table.now) start start) first (tracing_start a barred c.args.depth c.args.p.now (lines_of c.args.table.now) start) in
    tracing_decisive a barred c.args.depth c.args.p.now (lines_of c.args.table.now) c.in-Some.reply (drop 1 (next barred c.args.p.now)) start start (steps_of c.ask.new.pass) trace c.ask.ensures.grown c.ask.ensures.here ends

pub look_through-returns-then-won-own-clause-answer : goal.look_through-returns-then-won-own-clause-answer
look_through-returns-then-won-own-clause-answer t c =
    let a = (setting_of c.args.table.now).attacker in let barred = (setting_of c.args.table.now).barred in
    let side : c.eq-own.result ≡ same_color c.args.p.now.side c.attacker.result = search rules in
    let mine = side ∙ ap (same_color c.args.p.now.side) c.attacker.ensures in
    let ends = verdict-ends a barred c.args.depth c.args.p.now c.in-Some.reply c.eq-own.result c.in_ok-won.won true mine c.in_ok-won.ensures.answer.0 c.if-won-own.true in
    let first = first-for c.barred-barred.result.now barred c.args.p.now c.in-Some.reply c.barred-barred.ensures c.in-Some.ensures.first in
    let m = midst-first a barred c.args.depth c.args.p.now c.in-Some.reply c.args.left.now first in
    let answer = decisive-answer a barred c.args.depth c.args.p.now c.args.region.now.room 0 c.in-Some.reply (drop 1 (next barred c.args.p.now)) c.args.left.now c.args.left.now c.ask.new.left m c.requires.undecided c.in_ok-won.ensures.answer.1 ends in
    (mine ∙ answer.0, answer.1)

pub look_through-returns-in-Err-clause-answer : goal.look_through-returns-in-Err-clause-answer
look_through-returns-in-Err-clause-answer t c =
    let a = (setting_of c.args.table.now).attacker in let barred = (setting_of c.args.table.now).barred in
    let first = first-for c.barred-barred.result.now barred c.args.p.now c.in-Some.reply c.barred-barred.ensures c.in-Some.ensures.first in
    let m = midst-first a barred c.args.depth c.args.p.now c.in-Some.reply c.args.left.now first in
    let paid = c.in_ok-won.ensures.answer.1 in
    let falls = paid.falls in
    let whole = midst-paid a barred c.args.depth c.args.p.now c.in-Some.reply (drop 1 (next barred c.args.p.now)) c.args.left.now c.args.left.now c.ask.new.left m c.requires.undecided paid.most in
    let wide = crowd-deeper barred c.args.p.now c.args.depth c.requires.undecided in
    let list = ap (λ (qs : List Position). length (next qs c.args.p.now)) c.barred-barred.ensures in
    let held = ap (λ (s : List (List Position)). length (live_of s)) c.ask.ensures.segments in
    let room = c.ask.ensures.room in
    let full = c.in-Err.ensures.full in
    (omega arith, record { falls = omega arith; most = omega arith })
