use Rattle.std.proofs.Common.{◌≡◌, ◌≤◌, ℕ, Option, None, Some, false, is_some, refl, sym, ◌∙◌, subst, arith, true≢false}
use Rattle.arimaa_options.specs.Options.{given_for, least_of}
use Rattle.arimaa_options.proofs.option_values.read_option.Goals as goal

absent : (o : Option ℕ) → is_some o ≡ false → o ≡ None
absent None e = refl
absent (Some n) e = absurd (true≢false e)

pub with-requires : goal.with-requires
with-requires c =
    let read = (c.in_ok-number.ensures c.in_ok-number.number).0 refl in
    subst (λ (m : ℕ). c.in_ok-number.number ≤ m) c.most.ensures read.0

pub returns-clause-form : goal.returns-clause-form
returns-clause-form c =
    let read = (c.in_ok-number.ensures c.in_ok-number.number).0 refl in
    let is = c.least.ensures in
    let least : least_of c.in_ok-setting.setting ≤ c.in_ok-number.number = omega arith in (
      c.in_ok-setting.setting,
      c.in_ok-number.number,
      record {
        named = (c.in_ok-setting.ensures c.in_ok-setting.setting).0 refl;
        written = read.1;
        least = least;
        most = subst (λ (m : ℕ). c.in_ok-number.number ≤ m) c.most.ensures read.0;
        fresh = absent (given_for c.in_ok-setting.setting c.args.given) (sym c.has.ensures ∙ c.if-has.false);
      },
      c.with.ensures,
    )
