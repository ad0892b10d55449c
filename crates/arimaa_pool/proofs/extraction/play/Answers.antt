use Rattle.std.proofs.Common.{◌≡◌, ℕ, ◌-◌, ◌<◌, length, sym, ◌∙◌, ap, subst, arith}
use Rattle.arimaa_board.specs.declared.position.Position.{Position}
use Rattle.arimaa_model.specs.Ranks.{rank_within}
use Rattle.arimaa_model.specs.Wins.{wins}
use Rattle.arimaa_model.proofs.Lemmas.Meeting.{entry-rank}
use Rattle.arimaa_forced.specs.Needs.{IsAsked}
use Rattle.arimaa_forced.specs.declared.entry.Entry.{Entry}
use Rattle.arimaa_pool.specs.Terms.{Terms}
use Rattle.arimaa_pool.specs.Extraction.{written_entry}
use Rattle.arimaa_pool.proofs.HandedOn.{failed_too}
use Rattle.arimaa_pool.proofs.Lemmas.EntryLaws.{some-rank, reached-rank, reached-asked, written-steps}
use Rattle.arimaa_pool.proofs.extraction.play.Goals as goal

-- the rank that the entry has
rank_is : (t : Terms) (n : ℕ) (q : Position) (e : Entry) → e ≡ written_entry t n q → e.rank ≡ rank_within t.attacker t.barred n q
rank_is t n q e is = ap (λ (x : Entry). x.rank) is ∙ entry-rank t.attacker t.barred n q

pub overflow_sub-rank : goal.overflow_sub-rank
overflow_sub-rank c =
    let t : Terms = c.args.asker.now in
    let ranked = rank_is t c.args.n c.args.q.now c.in_ok-entry.entry c.in_ok-entry.ensures.entry in
    let some = some-rank t.attacker t.barred c.args.n c.args.q.now c.in_ok-entry.reached c.requires.open c.in_ok-entry.ensures.result in
    omega arith

pub meet_replies-requires-clause-won : goal.meet_replies-requires-clause-won
meet_replies-requires-clause-won c =
    let t : Terms = c.args.asker.now in
    let ranked = rank_is t c.args.n c.args.q.now c.in_ok-entry.entry c.in_ok-entry.ensures.entry in
    let exact = reached-rank t.attacker t.barred c.args.n c.args.q.now c.in_ok-entry.reached c.requires.open c.in_ok-entry.ensures.result in
    ap (λ (u : Terms). wins u.attacker u.barred (c.in_ok-entry.entry.rank - 1) c.in_ok-entry.reached) c.entry_of.ensures.same
    ∙ (ap (λ (k : ℕ). wins t.attacker t.barred (k - 1) c.in_ok-entry.reached) ranked ∙ exact.won)

pub returns-clause-failure : goal.returns-clause-failure
returns-clause-failure c =
    let t : Terms = c.args.asker.now in
    let ranked = rank_is t c.args.n c.args.q.now c.in_ok-entry.entry c.in_ok-entry.ensures.entry in
    let r = rank_within t.attacker t.barred c.args.n c.args.q.now in
    let asked = reached-asked t.attacker t.barred c.args.n c.args.q.now c.in_ok-entry.reached c.requires.open c.in_ok-entry.ensures.result in
    failed_too c.meet_replies.result c.entry_of.new.asker t
    (λ q j. (q ≡ c.in_ok-entry.reached) × (j ≡ c.in_ok-entry.entry.rank - 1))
    (IsAsked t.attacker t.barred c.args.q.now r)
    c.entry_of.ensures.same c.meet_replies.ensures.failure
    (λ q j is.
    let depth : j ≡ r - 1 = is.1 ∙ ap (λ (k : ℕ). k - 1) ranked in
    subst (λ (x : Position). IsAsked t.attacker t.barred c.args.q.now r x j) (sym is.0) (subst (λ (i : ℕ). IsAsked t.attacker t.barred c.args.q.now r c.in_ok-entry.reached i) (sym depth) asked))

pub push-requires : goal.push-requires
push-requires c =
    let t : Terms = c.args.asker.now in
    subst (λ (e : Entry). 0 < length e.turn) (sym c.in_ok-entry.ensures.entry) (written-steps t c.args.n c.args.q.now c.in_ok-entry.reached c.in_ok-entry.ensures.result)
