use Rattle.std.proofs.Common.{◌≡◌, List, length, sym, ◌∙◌, ap, arith, rules}
use Rattle.arimaa_meet.specs.Seats.{seat_of}
use Rattle.arimaa_meet.specs.declared.workers.Worker.{Worker}
use Rattle.arimaa_meet.proofs.Working.{all_shares, refilled}
use Rattle.arimaa_meet.proofs.workers.play_shares.Goals as goal

pub returns : goal.returns
returns g c =
    let ws = c.in_ok-workers.workers in
    let old : List (Worker g.row.S.Denot g.row.K.Denot) = ws.items in
    let new : List (Worker g.row.S.Denot g.row.K.Denot) = c.work_all.new.workers in
    let size : length new ≡ length old = c.work_all.ensures.size ∙ ap (λ (l : List (Worker g.row.S.Denot g.row.K.Denot)). length l) c.deref_mut.ensures.value in
    let back = refilled ws.len old new (search rules) size in
    let worked = rw c.deref_mut.ensures.value at c.work_all.ensures.worked in
    let finished = rw (c.deref.ensures.value, back) at c.have_finished-finished.ensures in
    let workers : c.args.meet.now.workers ≡ length c.args.spawners.now.items = search rules in
    all_shares g.S.Link.Port.sent g.S.Link.Port.answers g.S.Link.Port.counts
    (seat_of g.S.Spawner.waiting g.S.Spawner.back g.S.Spawner.answers g.S.Spawner.counts g.K.Clock.given)
    c.args.meet.now old new
    c.args.spawners.now.items c.enlist.new.spawners.items c.dismiss.new.spawners.items
    c.args.clocks.now.items c.enlist.new.clocks.items c.dismiss.new.clocks.items
    c.in_ok-shares.shares.items c.dismiss.new.shares.items
    workers (λ k d low. c.in_ok-workers.ensures.numbers k d (omega (arith, low, ws.ok.0))) size worked
    (sym finished ∙ c.if-not-finished.false)
    c.in_ok-workers.ensures.spawners c.in_ok-workers.ensures.clocks
    c.in_ok-workers.ensures.no_spawners c.in_ok-workers.ensures.no_clocks c.in_ok-shares.ensures.items
    (rw back at c.dismiss.ensures.spawners) (rw back at c.dismiss.ensures.clocks) (rw back at c.dismiss.ensures.shares)
