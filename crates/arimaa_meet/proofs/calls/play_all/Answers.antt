use Rattle.std.proofs.Common.{◌≡◌, ◌<◌, ℕ, List, length, rules}
use Rattle.std.specs.Prelude.{Vec, vec_len}
use Rattle.std.specs.declared.alloc.Global.{Global}
use Rattle.std.proofs.lemmas.Result.{IfOk-weaker}
use Rattle.arimaa_meet.specs.declared.match_report.Told.{Told}
use Rattle.arimaa_meet.specs.Matches.{MeetMatch}
use Rattle.arimaa_meet.specs.Seats.{seat_of}
use Rattle.arimaa_meet.specs.Shares.{AreShares, AreTold, HavePlayed}
use Rattle.arimaa_meet.specs.Workers.{terms_of}
use Rattle.arimaa_meet.proofs.Working.{all_told}
use Rattle.arimaa_meet.proofs.calls.play_all.Goals as goal

pub gather-requires-clause-shares : goal.gather-requires-clause-shares
gather-requires-clause-shares g c =
    let some : 0 < length c.args.spawners.now.items = search rules in
    let clocks : length c.args.clocks.now.items ≡ length c.args.spawners.now.items = search rules in
    let f = all_told g.S.Link.Port.sent g.S.Link.Port.answers g.S.Link.Port.counts
    (seat_of g.S.Spawner.waiting g.S.Spawner.back g.S.Spawner.answers g.S.Spawner.counts g.K.Clock.given)
    (terms_of c.args.meet.now) c.args.meet.now.pairs.items c.deref.result.now c.args.spawners.now.items c.play_shares.new.spawners.items
    c.args.clocks.now.items c.play_shares.new.clocks.items c.in_ok-shares.shares.items (vec_len c.in_ok-shares.shares)
    some clocks c.deref.ensures.value (search rules) c.in_ok-shares.ensures in
    (f.0, f.1)

pub returns : goal.returns
returns g c =
    let some : 0 < length c.args.spawners.now.items = search rules in
    let clocks : length c.args.clocks.now.items ≡ length c.args.spawners.now.items = search rules in
    let f = all_told g.S.Link.Port.sent g.S.Link.Port.answers g.S.Link.Port.counts
    (seat_of g.S.Spawner.waiting g.S.Spawner.back g.S.Spawner.answers g.S.Spawner.counts g.K.Clock.given)
    (terms_of c.args.meet.now) c.args.meet.now.pairs.items c.deref.result.now c.args.spawners.now.items c.play_shares.new.spawners.items
    c.args.clocks.now.items c.play_shares.new.clocks.items c.in_ok-shares.shares.items (vec_len c.in_ok-shares.shares)
    some clocks c.deref.ensures.value (search rules) c.in_ok-shares.ensures in
    IfOk-weaker c.gather.result
    (λ (told : Vec Told Global). (of_worker : ℕ → List MeetMatch) → AreShares c.deref.result.now of_worker c.in_ok-shares.shares.items
    → AreTold c.deref.result.now (vec_len c.in_ok-shares.shares) of_worker told.items)
    (λ (told : Vec Told Global). HavePlayed g.S.Link.Port.sent g.S.Link.Port.answers g.S.Link.Port.counts
    (seat_of g.S.Spawner.waiting g.S.Spawner.back g.S.Spawner.answers g.S.Spawner.counts g.K.Clock.given)
    (terms_of c.args.meet.now) c.args.meet.now.pairs.items c.args.spawners.now.items c.play_shares.new.spawners.items
    c.args.clocks.now.items c.play_shares.new.clocks.items told.items)
    (λ told are. f.2 told.items (are f.0 f.1)) c.gather.ensures
