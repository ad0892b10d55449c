use Rattle.std.proofs.Common.{◌≡◌, ℕ, ◌+◌, ◌-◌, ◌<◌, ◌≤◌, List, [], ◌∷◌, ◌++◌, length, take, get_or, map, refl, sym, ◌∙◌, ap, subst, arith}
use Rattle.std.proofs.lemmas.List.{map-append}
use Rattle.arimaa_board.specs.declared.position.Position.{Position}
use Rattle.arimaa_model.specs.Ranks.{IsRank, rank_within}
use Rattle.arimaa_model.specs.Results.{first_occurrences}
use Rattle.arimaa_model.specs.Strategies.{IsOpen, after_entry, positions_met}
use Rattle.arimaa_model.proofs.Lemmas.Members.{In}
use Rattle.arimaa_model.proofs.Lemmas.Meeting.{all-ready, contained}
use Rattle.arimaa_forced.specs.Needs.{IsAsked, InNeed}
use Rattle.arimaa_forced.specs.declared.entry.Entry.{Entry}
use Rattle.arimaa_pool.specs.Terms.{Terms}
use Rattle.arimaa_pool.specs.Extraction.{IsQueue, written_entry}
use Rattle.arimaa_pool.proofs.HandedOn.{fail_on}
use Rattle.arimaa_pool.proofs.Levels.{queue-more, queue-met, queue-short, queue-end, played-more, played-all, all-entries}
use Rattle.arimaa_pool.proofs.NeededQuestions.{met-need, root-need}
use Rattle.arimaa_pool.proofs.extraction.extract.Goals as goal

-- the next of the queue is met
next-met : (t : Terms) (n : ℕ) (p : Position) → IsRank t.attacker t.barred p n → (k : ℕ) (queue : List Position) → IsQueue t n p k queue → k < length queue → (q : Position) → q ≡ get_or queue k q → In q (positions_met t.attacker t.barred n p n)
next-met t n p exact k queue is inside q here = queue-met t n p exact.won k queue is q (contained queue q k inside (sym here))

pub returns-in_err-meet_first-clause-failure : goal.returns-in_err-meet_first-clause-failure
returns-in_err-meet_first-clause-failure c =
    let t : Terms = c.args.asker.now in
    fail_on c.meet_first.result c.from_residual.result c.in_err-meet_first.field-0.0 t t
    (λ u q j. (q ≡ c.args.p.now) × (j ≡ c.args.rank))
    (InNeed t.attacker t.barred c.args.p.now c.args.rank)
    refl c.in_err-meet_first.was c.from_residual.ensures.1 c.meet_first.ensures.failure
    (λ q j is. subst (λ (x : Position). InNeed t.attacker t.barred c.args.p.now c.args.rank x j) (sym is.0)
    (subst (λ (i : ℕ). InNeed t.attacker t.barred c.args.p.now c.args.rank c.args.p.now i) (sym is.1) (root-need t.attacker t.barred c.args.p.now c.args.rank c.requires.rank c.args.rank (omega arith))))

pub play-requires-clause-open : goal.play-requires-clause-open
play-requires-clause-open c =
    let t : Terms = c.args.asker.now in
    let long : length c.as_slice.result.now ≡ length c.loop-played.queue = ap length c.as_slice.ensures in
    let inside : c.loop-played.played < length c.loop-played.queue = omega arith in
    let here : c.index-as_slice-played.result ≡ get_or c.loop-played.queue c.loop-played.played c.index-as_slice-played.result = c.index-as_slice-played.is ∙ ap (λ (l : List Position). get_or l c.loop-played.played c.index-as_slice-played.result) c.as_slice-in-loop-played.ensures in
    let there = next-met t c.args.rank c.args.p.now c.requires.rank c.loop-played.played c.loop-played.queue c.loop-played.invariant.queue_is inside c.index-as_slice-played.result here in
    subst (λ (u : Terms). IsOpen u.attacker u.barred c.args.rank c.index-as_slice-played.result) (sym c.loop-played.invariant.same)
    (all-ready t.attacker t.barred c.args.rank c.args.p.now c.requires.rank.won c.args.rank c.index-as_slice-played.result there)

pub returns-in_err-play-clause-failure : goal.returns-in_err-play-clause-failure
returns-in_err-play-clause-failure c =
    let t : Terms = c.args.asker.now in
    let long : length c.as_slice.result.now ≡ length c.loop-played.queue = ap length c.as_slice.ensures in
    let inside : c.loop-played.played < length c.loop-played.queue = omega arith in
    let here : c.index-as_slice-played.result ≡ get_or c.loop-played.queue c.loop-played.played c.index-as_slice-played.result = c.index-as_slice-played.is ∙ ap (λ (l : List Position). get_or l c.loop-played.played c.index-as_slice-played.result) c.as_slice-in-loop-played.ensures in
    let there = next-met t c.args.rank c.args.p.now c.requires.rank c.loop-played.played c.loop-played.queue c.loop-played.invariant.queue_is inside c.index-as_slice-played.result here in
    fail_on c.play.result c.from_residual-in_err-play.result c.in_err-play.field-0.0 c.loop-played.asker t
    (λ u. IsAsked u.attacker u.barred c.index-as_slice-played.result (rank_within u.attacker u.barred c.args.rank c.index-as_slice-played.result))
    (InNeed t.attacker t.barred c.args.p.now c.args.rank)
    c.loop-played.invariant.same c.in_err-play.was c.from_residual-in_err-play.ensures.1 c.play.ensures.failure
    (λ x j asked. met-need t.attacker t.barred c.args.p.now c.args.rank c.requires.rank c.args.rank (omega arith) c.index-as_slice-played.result there x j asked)

pub loop-played-smaller : goal.loop-played-smaller
loop-played-smaller c =
    let t : Terms = c.args.asker.now in
    let long : length c.as_slice.result.now ≡ length c.loop-played.queue = ap length c.as_slice.ensures in
    let inside : c.loop-played.played < length c.loop-played.queue = omega arith in
    let short = queue-short t c.args.rank c.args.p.now c.requires.rank.won c.loop-played.played c.loop-played.queue c.loop-played.invariant.queue_is in
    omega arith

pub loop-played-preserved : goal.loop-played-preserved
loop-played-preserved c =
    let t : Terms = c.args.asker.now in
    let n = c.args.rank in
    let k = c.loop-played.played in
    let q = c.index-as_slice-played.result in
    let queue = c.loop-played.queue in
    let long : length c.as_slice.result.now ≡ length queue = ap length c.as_slice.ensures in
    let inside : k < length queue = omega arith in
    let here : q ≡ get_or queue k q = c.index-as_slice-played.is ∙ ap (λ (l : List Position). get_or l k q) c.as_slice-in-loop-played.ensures in
    let same = c.loop-played.invariant.same in
    let met_is : c.play.new.queue ≡ first_occurrences queue (after_entry t.attacker t.barred n q) = c.in_ok-play.ensures.met ∙ ap (λ (u : Terms). first_occurrences queue (after_entry u.attacker u.barred n q)) same in
    let w : Position → Entry = written_entry t n in
    let written : c.play.new.strategy ≡ c.loop-played.strategy ++ w q ∷ [] = c.in_ok-play.ensures.entry ∙ ap (λ (u : Terms). c.loop-played.strategy ++ written_entry u n q ∷ []) same in
    let played : take (k + 1) c.play.new.queue ≡ take k queue ++ q ∷ [] = ap (take (k + 1)) met_is ∙ played-more t n c.args.p.now c.requires.rank.won k q queue (after_entry t.attacker t.barred n q) inside (sym here) in
    record {
      same = c.in_ok-play.ensures.same ∙ same;
      empty = c.in_ok-play.ensures.empty;
      room = c.in_ok-play.ensures.room ∙ c.loop-played.invariant.room;
      queue_is = subst (IsQueue t n c.args.p.now (k + 1)) (sym met_is) (queue-more t n c.args.p.now c.requires.rank.won k q queue c.loop-played.invariant.queue_is inside (sym here));
      strategy = written ∙ (ap (λ l. l ++ w q ∷ []) c.loop-played.invariant.strategy ∙ (sym (map-append w (take k queue) (q ∷ [])) ∙ ap (map w) (sym played)));
    }

pub returns-clause-strategy : goal.returns-clause-strategy
returns-clause-strategy c =
    let t : Terms = c.args.asker.now in
    let n = c.args.rank in
    let queue = c.loop-played.queue in
    let long : length c.as_slice.result.now ≡ length queue = ap length c.as_slice.ensures in
    let past : length queue ≤ c.loop-played.played = omega arith in
    c.loop-played.invariant.strategy
    ∙ (ap (map (written_entry t n)) (played-all t n c.args.p.now c.requires.rank.won c.loop-played.played queue past)
    ∙ all-entries t n c.args.p.now c.requires.rank.won queue (queue-end t n c.args.p.now c.requires.rank.won c.loop-played.played queue c.loop-played.invariant.queue_is past))
