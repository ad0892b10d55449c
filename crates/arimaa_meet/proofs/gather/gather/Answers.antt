use Rattle.std.proofs.Common.{◌≡◌, ◌%◌, ◌<◌, ◌≤◌, ℕ, List, ◌∷◌, length, refl, ◌∙◌, sym, ap, subst, arith, rules}
use Rattle.std.specs.Prelude.{Vec, vec_len}
use Rattle.std.proofs.lemmas.List.{length-set}
use Rattle.std.specs.declared.alloc.Global.{Global}
use Rattle.arimaa_meet.specs.declared.match_report.Told.{Told}
use Rattle.arimaa_meet.specs.declared.pairs.Pair.{Pair}
use Rattle.arimaa_meet.specs.Shares.{AreTold}
use Rattle.arimaa_meet.proofs.Gathering.{Gathered, all_gathered, first_taken, gathered_more, none_gathered, some_left, some_of}
use Rattle.arimaa_meet.proofs.gather.gather.Goals as goal

pub matches-init : goal.matches-init
matches-init c = record {
  size = refl;
  taken = λ of_worker given.
      subst (λ (l : List Told). Gathered c.args.pairs.now (length c.args.shares.items) of_worker 0 c.args.shares.items l) (sym c.new-told.ensures.items)
      (none_gathered c.args.pairs.now (length c.args.shares.items) of_worker c.args.shares.items refl given);
}

pub remove-requires : goal.remove-requires
remove-requires c =
    let share : Vec Told Global = c.index_mut-share.result.now in
    let pairs : List Pair = c.args.pairs.now in
    let shares : List (Vec Told Global) = c.matches.shares.items in
    let workers : ℕ = length c.args.shares.items in
    let within : c.matches.place < length pairs = search rules in
    let size : c.len.result ≡ workers = search rules in
    let some : 0 < workers = search rules in
    let worker : ℕ = c.matches.place % c.len.result in
    let own : c.matches.place % workers ≡ worker = ap (λ (n : ℕ). c.matches.place % n) (sym size) in
    let there : worker < workers = omega (arith, own) in
    let left = some_left pairs workers c.requires.shares.0 c.matches.place worker (some_of pairs (omega arith)) shares c.matches.told.items share
    (c.matches.invariant.taken c.requires.shares.0 c.requires.shares.1) within own there in
    let low : 0 < length share.items = subst (λ (v : Vec Told Global). 0 < length v.items) (sym c.index_mut-share.ensures.value) left in
    omega (arith, low, share.ok.0)

pub matches-preserved : goal.matches-preserved
matches-preserved c =
    let share : Vec Told Global = c.index_mut-share.result.now in
    let pairs : List Pair = c.args.pairs.now in
    let shares : List (Vec Told Global) = c.matches.shares.items in
    let workers : ℕ = length c.args.shares.items in
    let within : c.matches.place < length pairs = search rules in
    let size : c.len.result ≡ workers = search rules in
    let some : 0 < workers = search rules in
    let worker : ℕ = c.matches.place % c.len.result in
    let own : c.matches.place % workers ≡ worker = ap (λ (n : ℕ). c.matches.place % n) (sym size) in
    let there : worker < workers = omega (arith, own) in
    let still : length shares ≡ workers = c.matches.invariant.size in
    let many : 0 < length share.items = search rules in
    record {
      size = length-set shares worker c.remove.new.self ∙ still;
      taken = λ of_worker given.
          gathered_more pairs workers of_worker c.matches.place worker (some_of pairs (omega arith)) shares c.matches.told.items c.push.new.self.items
          share c.remove.new.self c.remove.result still own there within (c.matches.invariant.taken of_worker given)
          c.index_mut-share.ensures.value
          (first_taken share.items c.remove.result many c.remove.ensures.value ∙ ap (λ (l : List Told). c.remove.result ∷ l) (sym c.remove.ensures.items))
          c.in_ok-push.ensures.items;
    }

pub returns : goal.returns
returns c = λ of_worker given.
    let workers : ℕ = length c.args.shares.items in
    let some : 0 < workers = search rules in
    let size : workers ≡ vec_len c.args.shares = search rules in
    let past : length c.args.pairs.now ≤ c.matches.place = search rules in
    subst (λ (n : ℕ). AreTold c.args.pairs.now n of_worker c.matches.told.items) size
    (all_gathered c.args.pairs.now workers of_worker c.matches.place c.matches.shares.items c.matches.told.items
    (some_of c.args.shares.items some) past (c.matches.invariant.taken of_worker given))
