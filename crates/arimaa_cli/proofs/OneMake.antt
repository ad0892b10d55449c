-- Each question to make has one answer.
use Rattle.std.proofs.Common.{◌≡◌, ◌≤◌, ℕ, List, [], ◌∷◌, ◌++◌, length, refl, sym, ap, subst, arith}
use Rattle.std.specs.Prelude.{Result, Err}
use Rattle.arimaa_board.specs.declared.position.Position.{Position}
use Rattle.arimaa_board.specs.declared.position.Step.{Step}
use Rattle.arimaa_judge.specs.Agreement.{JudgementsAgree}
use Rattle.arimaa_judge.specs.Texts.{text_of_bad}
use Rattle.arimaa_model.specs.Game.{barred_by, present}
use Rattle.arimaa_model.specs.Results.{next}
use Rattle.arimaa_record.specs.declared.label.Label.{Label}
use Rattle.arimaa_record.specs.Label.{next_label}
use Rattle.arimaa_cli.specs.declared.answer.Answer.{Answer}
use Rattle.arimaa_cli.specs.declared.answer.Answer.TheVariants.{Answered, Crowded, Done}
use Rattle.arimaa_cli.specs.declared.commands.make.Making.{Making}
use Rattle.arimaa_cli.specs.declared.commands.make.TheConstants.{MOST_PLACES, SETUPS}
use Rattle.arimaa_cli.specs.Commands.Make.{IsMade, IsMadeFrom, IsMakeAnswer, IsPicked, IsStart, number_after, summary, turn_line}
use Rattle.arimaa_cli.specs.Texts.{crowded_text}
use Rattle.arimaa_cli.specs.Commands.Make.IsMade.{begun, unbegun}
use Rattle.arimaa_cli.specs.Commands.Make.IsMadeFrom.{crowded, enough, over, turn}
use Rattle.arimaa_cli.specs.Commands.Make.IsMakeAnswer.{bad, crowded as full, lawful}

one_text : (n number : ℕ) (due : Label) (h : List Position) (text : List ℕ) (a b : Result (List ℕ) Position) → IsMadeFrom n number due h text a → IsMadeFrom n number due h text b → a ≡ b
one_text n x d h t a b (enough x1 d1 h1 t1) (enough x2 d2 h2 t2) = refl
one_text n x d h t a b (enough x1 d1 h1 t1) (over n2 x2 d2 h2 t2 e ends) = refl
one_text n x d h t a b (over n1 x1 d1 h1 t1 e ends) (enough x2 d2 h2 t2) = refl
one_text n x d h t a b (over n1 x1 d1 h1 t1 e ends) (over n2 x2 d2 h2 t2 f stops) = refl
one_text n x d h t a b (over n1 x1 d1 h1 t1 e ends) (crowded n2 x2 d2 h2 t2 p goes many) = let on = goes.on in cc
one_text n x d h t a b (over n1 x1 d1 h1 t1 e ends) (turn n2 x2 d2 h2 t2 p q s made goes picked rest) = let on = goes.on in cc
one_text n x d h t a b (crowded n1 x1 d1 h1 t1 p goes many) (over n2 x2 d2 h2 t2 e ends) = let on = goes.on in cc
one_text n x d h t a b (crowded n1 x1 d1 h1 t1 p goes many) (crowded n2 x2 d2 h2 t2 q also more) =
    let last = goes.last in let again = also.last in let same : p ≡ q = cc in ap (λ (r : Position). Err r) same
one_text n x d h t a b (crowded n1 x1 d1 h1 t1 p goes many) (turn n2 x2 d2 h2 t2 r q s made also picked rest) =
    let last = goes.last in
    let again = also.last in
    let same : r ≡ p = cc in
    let few : length (next (barred_by h) p) ≤ MOST_PLACES = subst (λ (z : Position). length (next (barred_by h) z) ≤ MOST_PLACES) same picked.few in
    absurd (omega arith)
one_text n x d h t a b (turn n1 x1 d1 h1 t1 p q s made goes picked rest) (over n2 x2 d2 h2 t2 e ends) = let on = goes.on in cc
one_text n x d h t a b (turn n1 x1 d1 h1 t1 p q s made goes picked rest) (crowded n2 x2 d2 h2 t2 r also many) =
    let last = goes.last in
    let again = also.last in
    let same : p ≡ r = cc in
    let few : length (next (barred_by h) r) ≤ MOST_PLACES = subst (λ (z : Position). length (next (barred_by h) z) ≤ MOST_PLACES) same picked.few in
    absurd (omega arith)
one_text n x d h t a b (turn n1 x1 d1 h1 t1 p q s made goes picked rest) (turn n2 x2 d2 h2 t2 p2 q2 s2 made2 also picked2 rest2) =
    let last = goes.last in
    let again = also.last in
    let here : p2 ≡ p = cc in
    let taken : IsPicked (number_after x) (barred_by h) p q2 s2 = subst (λ (z : Position). IsPicked (number_after x) (barred_by h) z q2 s2) here picked2 in
    let place = picked.place in
    let place2 = taken.place in
    let there : q2 ≡ q = cc in
    let led : IsPicked (number_after x) (barred_by h) p q s2 = subst (λ (z : Position). IsPicked (number_after x) (barred_by h) p z s2) there taken in
    let first = picked.first in
    let first2 = led.first in
    let steps : s2 ≡ s = cc in
    let one = subst (λ (z : Position). IsMadeFrom n1 (number_after x) (next_label d) (h ++ q2 ∷ []) (t ++ turn_line d z s2) made2) here rest2 in
    let two = subst (λ (z : Position). IsMadeFrom n1 (number_after x) (next_label d) (h ++ z ∷ []) (t ++ turn_line d p s2) made2) there one in
    let three = subst (λ (z : List Step). IsMadeFrom n1 (number_after x) (next_label d) (h ++ q ∷ []) (t ++ turn_line d p z) made2) steps two in
    one_text n1 (number_after x) (next_label d) (h ++ q ∷ []) (t ++ turn_line d p s) a b rest three

module _ (law : JudgementsAgree) (asked : Making) where
  one_start : (p q : Position) (d e : Label) → IsStart p d → IsStart q e → (p ≡ q) × (d ≡ e)
  one_start p q d e s t =
      let same = law SETUPS.now _ _ s.judged t.judged in
      let history : s.history ≡ t.history = cc in
      let last = s.last in
      let again = t.last in
      let moved : present s.history ≡ present t.history = ap present history in
      (cc, cc)

  one_made : (a b : Result (List ℕ) Position) → IsMade asked a → IsMade asked b → a ≡ b
  one_made a b (begun p d s m made) (begun q e t k other) =
      let same = one_start p q d e s t in
      let here = subst (λ (z : Position). IsMadeFrom asked.turns asked.number d (z ∷ []) SETUPS.now a) same.0 made in
      let due = subst (λ (z : Label). IsMadeFrom asked.turns asked.number z (q ∷ []) SETUPS.now a) same.1 here in
      one_text asked.turns asked.number e (q ∷ []) SETUPS.now a b due other
  one_made a b (begun p d s m made) (unbegun never) = absurd (never p d s)
  one_made a b (unbegun never) (begun p d s m made) = absurd (never p d s)
  one_made a b (unbegun never) (unbegun again) = refl

  pub one_make : (a b : Answer) → IsMakeAnswer asked a → IsMakeAnswer asked b → a ≡ b
  one_make a b (full p m) (full q k) = let same = one_made _ _ m k in let here : p ≡ q = cc in ap (λ (z : Position). Crowded (crowded_text z 1)) here
  one_make a b (full p m) (lawful t h n e l k j) = let same = one_made _ _ m k in cc
  one_make a b (full p m) (bad t n d r k j) = let same = one_made _ _ m k in cc
  one_make a b (lawful t h n e l k j) (full p m) = let same = one_made _ _ k m in cc
  one_make a b (lawful t h n e l k j) (lawful t2 h2 n2 e2 l2 k2 j2) =
      let same = one_made _ _ k k2 in
      let text : t2 ≡ t = cc in
      let both = law t _ _ j (rw text at j2) in
      let turns : n ≡ n2 = cc in
      let ended : e ≡ e2 = cc in
      let due : l ≡ l2 = cc in
      λ i. Done (summary (turns i) (length (sym text i)) (ended i) (due i))
  one_make a b (lawful t h n e l k j) (bad t2 n2 d r k2 j2) =
      let same = one_made _ _ k k2 in let text : t2 ≡ t = cc in let both = law t _ _ j (rw text at j2) in cc
  one_make a b (bad t2 n2 d r k2 j2) (full p m) = let same = one_made _ _ k2 m in cc
  one_make a b (bad t2 n2 d r k2 j2) (lawful t h n e l k j) =
      let same = one_made _ _ k2 k in let text : t2 ≡ t = cc in let both = law t _ _ j (rw text at j2) in cc
  one_make a b (bad t n d r k j) (bad t2 n2 d2 r2 k2 j2) =
      let same = one_made _ _ k k2 in
      let text : t2 ≡ t = cc in
      let both = law t _ _ j (rw text at j2) in
      let number : n ≡ n2 = cc in
      let due : d ≡ d2 = cc in
      let rule : r ≡ r2 = cc in
      λ i. Answered (text_of_bad (number i) (due i) (rule i))
