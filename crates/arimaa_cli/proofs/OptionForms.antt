-- What the options of prove and refute set.
use Rattle.std.proofs.Common.{◌≡◌, ℕ, List, Option, None, Some, sym, ◌∙◌, ap}
use Rattle.arimaa_pool.specs.declared.settings.Settings.{Settings}
use Rattle.arimaa_options.specs.declared.search_options.SearchOptions.{SearchOptions}
use Rattle.arimaa_options.specs.Options as options
use Rattle.arimaa_options.proofs.Lemmas.OptionForms as forms
use Rattle.arimaa_cli.specs.Options.{AreOptions, AreOptionsOfOne}

-- words are options that set one thing
pub one_options : (ws : List (List ℕ)) (s t : Settings) → AreOptions ws s → AreOptions ws t → s ≡ t
one_options ws s t p q = ap (λ (o : SearchOptions). o.settings) (forms.one_options ws _ _ p.given q.given)

pub one_options_of_one : (ws : List (List ℕ)) (s t : Settings) → AreOptionsOfOne ws s → AreOptionsOfOne ws t → s ≡ t
one_options_of_one ws s t p q =
    let usual = ap (λ (o : SearchOptions). o.settings) (forms.one_options ws _ _ p.given q.given) in
    p.set ∙ ap (λ (u : Settings). record u { workers = 1 }) usual ∙ sym q.set

-- options with a depth set nothing
pub no_settings : (ws : List (List ℕ)) (o : SearchOptions) (d : ℕ) → options.AreOptions ws o → o.depth ≡ Some d → (s : Settings) → AreOptions ws s → ⊥
no_settings ws o d are some s p =
    let same : None ≡ Some d = ap (λ (x : SearchOptions). x.depth) (forms.one_options ws _ o p.given are) ∙ some in
    let never : ⊥ = cc in
    never

-- options with a depth or a number of workers set nothing for one worker
pub of_one : (ws : List (List ℕ)) (o : SearchOptions) → options.AreOptions ws o → (s : Settings) → AreOptionsOfOne ws s → (o.depth ≡ None) × (o.workers ≡ None)
of_one ws o are s p =
    let same = forms.one_options ws o _ are p.given in
    (ap (λ (x : SearchOptions). x.depth) same, ap (λ (x : SearchOptions). x.workers) same)

-- what isn't given has no number
pub never_given : (o : Option ℕ) (n : ℕ) → o ≡ None → o ≡ Some n → ⊥
never_given o n none some = cc
