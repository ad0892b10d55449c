use Rattle.std.proofs.Common.{◌<◌, List, length, rules}
use Rattle.arimaa_meet.specs.declared.pairs.Pair.{Pair}
use Rattle.arimaa_meet.specs.Workers.{terms_of}
use Rattle.arimaa_meet.proofs.Playing.{share_more, share_same}
use Rattle.arimaa_meet.proofs.meet.play_share.Goals as goal

pub matches-preserved-then-place-meet : goal.matches-preserved-then-place-meet
matches-preserved-then-place-meet g c =
    let within : c.matches.place < length c.args.meet.now.pairs.items = search rules in
    share_same g.S.Link.Port.sent g.S.Link.Port.answers g.S.Link.Port.counts (terms_of c.args.meet.now) c.args.meet.now.pairs.items
    c.args.worker c.args.meet.now.workers c.matches.place _ _ c.matches.told.items (record { gold = 0; silver = 0 })
    c.matches.invariant within c.if-place-meet.true

pub matches-preserved : goal.matches-preserved
matches-preserved g c =
    let pairs : List Pair = c.args.meet.now.pairs.items in
    let within : c.matches.place < length pairs = search rules in
    share_more g.S.Link.Port.sent g.S.Link.Port.answers g.S.Link.Port.counts (terms_of c.args.meet.now) pairs
    c.args.worker c.args.meet.now.workers c.matches.place _ _ _ c.matches.told.items c.push.new.self.items c.index.result.now c.in_ok-play_pair.field-0
    c.matches.invariant within c.if-place-meet.false c.index.ensures c.in_ok-play_pair.ensures c.in_ok-push.ensures.items
