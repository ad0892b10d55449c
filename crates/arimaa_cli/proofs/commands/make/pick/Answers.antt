use Rattle.std.proofs.Common.{◌≡◌, ◌∷◌, ◌/◌, ◌^◌, [], length, ◌≤◌, sym, ◌∙◌, ap, arith, true≢false}
use Rattle.arimaa_model.specs.Results.{next, results}
use Rattle.arimaa_model.proofs.Lemmas.Positions.{In-stands, next-results}
use Rattle.arimaa_cli.specs.declared.commands.make.TheConstants.{MOST_PLACES}
use Rattle.arimaa_region.specs.Segments.{live_of}
use Rattle.arimaa_cli.proofs.Generator.{in_at, same_place}
use Rattle.arimaa_cli.proofs.commands.make.pick.Goals as goal

pub unreachable-requires : goal.unreachable-requires
unreachable-requires c =
    let segments : c.results.new.region.segments ≡ next c.args.barred.now c.args.p.now ∷ [] = ap (λ r. r.segments) c.in-Ok.ensures.filled ∙ ap (λ s. next c.args.barred.now c.args.p.now ∷ s) c.requires.empty in
    let all : live_of c.results.new.region.segments ≡ next c.args.barred.now c.args.p.now = ap live_of segments in
    let place = same_place _ _ (c.args.number / 2 ^ 33) c.from.result c.get-reached.result all (c.from.ensures ∙ c.live.ensures.count) c.get-reached.ensures in
    true≢false (sym (c.in-None.ensures.some.1 (In-stands (results c.args.p.now) c.get-reached.result (next-results c.args.barred.now c.args.p.now c.get-reached.result (in_at _ _ c.get-reached.result place)))))

pub returns-clause-picked : goal.returns-clause-picked
returns-clause-picked c =
    let segments : c.results.new.region.segments ≡ next c.args.barred.now c.args.p.now ∷ [] = ap (λ r. r.segments) c.in-Ok.ensures.filled ∙ ap (λ s. next c.args.barred.now c.args.p.now ∷ s) c.requires.empty in
    let all : live_of c.results.new.region.segments ≡ next c.args.barred.now c.args.p.now = ap live_of segments in
    let size : length (live_of c.results.new.region.segments) ≡ length (next c.args.barred.now c.args.p.now) = ap length all in
    let room : c.results.new.region.room ≡ c.args.region.now.room = ap (λ r. r.room) c.in-Ok.ensures.filled in
    let full : c.args.region.now.room ≡ MOST_PLACES = c.requires.room in
    let within : length (live_of c.results.new.region.segments) ≤ c.results.new.region.room = c.live.ensures.within in
    record {
      few = omega arith;
      place = same_place _ _ (c.args.number / 2 ^ 33) c.from.result c.get-reached.result all (c.from.ensures ∙ c.live.ensures.count) c.get-reached.ensures;
      first = sym c.in-Some.ensures.first;
    }
