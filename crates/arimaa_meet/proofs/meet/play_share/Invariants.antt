use Rattle.arimaa_meet.specs.Seats.{seat_of}
use Rattle.arimaa_meet.specs.Workers.{terms_of}
use Rattle.arimaa_meet.proofs.Playing.{ShareProgress}
use Rattle.arimaa_meet.proofs.meet.play_share.Given as goal

-- the worker's first matches were played
abbrev pub invariant-matches : goal.invariant-matches
invariant-matches g l =
    ShareProgress g.S.Link.Port.sent g.S.Link.Port.answers g.S.Link.Port.counts (terms_of l.meet) l.meet.pairs.items
    l.worker l.meet.workers l.place
    (seat_of g.S.Spawner.waiting g.S.Spawner.back g.S.Spawner.answers g.S.Spawner.counts g.K.Clock.given l.initial.spawner l.initial.clock)
    (seat_of g.S.Spawner.waiting g.S.Spawner.back g.S.Spawner.answers g.S.Spawner.counts g.K.Clock.given l.spawner l.clock)
    l.told.items
