use Rattle.std.proofs.Common.{◌<◌, ◌^◌, arith}
use Rattle.arimaa_board.specs.declared.square.Dir.TheVariants.{North, East, South, West}
use Rattle.arimaa_step.proofs.TurnedMasks.{others_mask, others_by_direction, others_of, others_each}
use Rattle.arimaa_step.proofs.earlier_steps.EarlierSteps.left_out_of.Goals as goal

pub returns-clause-accepted : goal.returns-clause-accepted
returns-clause-accepted c st s steps earlier =
    let north : c.args.self.now.north < 2 ^ 64 = omega arith in
    let east : c.args.self.now.east < 2 ^ 64 = omega arith in
    let south : c.args.self.now.south < 2 ^ 64 = omega arith in
    let west : c.args.self.now.west < 2 ^ 64 = omega arith in
    others_by_direction st s _
    (λ p. others_mask st s North p _ c.args.self.now.north north (steps North) (earlier North p))
    (λ p. others_mask st s East p _ c.args.self.now.east east (steps East) (earlier East p))
    (λ p. others_mask st s South p _ c.args.self.now.south south (steps South) (earlier South p))
    (λ p. others_mask st s West p _ c.args.self.now.west west (steps West) (earlier West p))

pub returns-clause-others : goal.returns-clause-others
returns-clause-others c test s steps earlier =
    let north : c.args.self.now.north < 2 ^ 64 = omega arith in
    let east : c.args.self.now.east < 2 ^ 64 = omega arith in
    let south : c.args.self.now.south < 2 ^ 64 = omega arith in
    let west : c.args.self.now.west < 2 ^ 64 = omega arith in
    others_each test s _
    (λ p. others_of (test North) s North p _ c.args.self.now.north north (steps North) (earlier North p))
    (λ p. others_of (test East) s East p _ c.args.self.now.east east (steps East) (earlier East p))
    (λ p. others_of (test South) s South p _ c.args.self.now.south south (steps South) (earlier South p))
    (λ p. others_of (test West) s West p _ c.args.self.now.west west (steps West) (earlier West p))
