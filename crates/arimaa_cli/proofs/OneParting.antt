-- An input that has a text behind a word is parted in one way, and has one answer.
use Rattle.std.proofs.Common.{◌≡◌, ℕ, ◌+◌, List, [], ◌∷◌, ◌++◌, length, Option, None, Some, refl, sym, ◌∙◌, ap, subst, inl}
use Rattle.std.specs.Prelude.{◌⊎◌, Ok}
use Rattle.std.specs.List.{AllByRecursion}
use Rattle.std.specs.Option.{option_map}
use Rattle.arimaa_judge.specs.declared.judgement.Judged.{Judged}
use Rattle.arimaa_judge.specs.Agreement.{JudgementsAgree}
use Rattle.arimaa_judge.specs.Judgement.{IsJudged, IsJudgedFrom}
use Rattle.arimaa_judge.specs.RecordState.{before_lines}
use Rattle.arimaa_judge.specs.Texts.{text_of_bad}
use Rattle.arimaa_record.specs.Lines.{lines_of}
use Rattle.arimaa_cli.specs.declared.answer.Answer.{Answer}
use Rattle.arimaa_cli.specs.declared.answer.Answer.TheVariants.{Answered}
use Rattle.arimaa_cli.specs.declared.record.Game.{Game}
use Rattle.arimaa_cli.specs.Answer.{IsStop}
use Rattle.arimaa_cli.specs.Parts.{IsMadeOf, IsPartedAnswer, Says}
use Rattle.arimaa_cli.specs.Records.{IsRecordAnswer}
use Rattle.arimaa_cli.specs.Records.IsRecordAnswer.{bad, lawful}

-- ---- the parts of an input

-- lines are parted at the first that says a word
one_parting : (word : List ℕ) (xs ys : List (List ℕ)) (x y : List ℕ) (us vs : List (List ℕ)) → AllByRecursion (λ line. ¬ Says word line) xs → Says word x
    → AllByRecursion (λ line. ¬ Says word line) ys → Says word y → xs ++ x ∷ us ≡ ys ++ y ∷ vs → (xs ≡ ys) × (us ≡ vs)
one_parting word [] [] x y us vs p s q t e = let rest : us ≡ vs = cc in (refl, rest)
one_parting word [] (l ∷ ys) x y us vs p s q t e = let same : x ≡ l = cc in absurd (q.0 (subst (Says word) same s))
one_parting word (l ∷ xs) [] x y us vs p s q t e = let same : y ≡ l = cc in absurd (p.0 (subst (Says word) same t))
one_parting word (l ∷ xs) (m ∷ ys) x y us vs p s q t e =
    let first : l ≡ m = cc in
    let rest : xs ++ x ∷ us ≡ ys ++ y ∷ vs = cc in
    let both = one_parting word xs ys x y us vs p.1 s q.1 t rest in
    ((λ i. first i ∷ both.0 i), both.1)

-- lines none of which says a word aren't parted
no_parting : (word : List ℕ) (xs : List (List ℕ)) (x : List ℕ) (us : List (List ℕ)) → AllByRecursion (λ line. ¬ Says word line) (xs ++ x ∷ us) → Says word x → ⊥
no_parting word [] x us all s = all.0 s
no_parting word (l ∷ xs) x us all s = no_parting word xs x us all.1 s

-- the lines of the parts are the same
one_made : (word given f g : List ℕ) (t u : Option (List ℕ)) → IsMadeOf word given f t → IsMadeOf word given g u → (lines_of f ≡ lines_of g) × (option_map lines_of t ≡ option_map lines_of u)
one_made word given f g None None p q = (ap lines_of (sym p.0 ∙ q.0), refl)
one_made word given f g None (Some u) p q = absurd (no_parting word (lines_of g) q.line (lines_of u) (subst (AllByRecursion (λ line. ¬ Says word line)) q.lines p.1) q.says)
one_made word given f g (Some t) None p q = absurd (no_parting word (lines_of f) p.line (lines_of t) (subst (AllByRecursion (λ line. ¬ Says word line)) p.lines q.1) p.says)
one_made word given f g (Some t) (Some u) p q =
    let both = one_parting word (lines_of f) (lines_of g) p.line q.line (lines_of t) (lines_of u) p.first p.says q.first q.says (sym p.lines ∙ q.lines) in
    (both.0, ap Some both.1)

-- a judgement is one of lines
judged_as : (f g : List ℕ) (j : Judged) → lines_of f ≡ lines_of g → IsJudged f j → IsJudged g j
judged_as f g j e h = subst (λ (ls : List (List ℕ)). IsJudgedFrom before_lines 1 ls j) e h

-- ---- answers

-- two answers are one, or one of them is a stop
abbrev pub AreOne : Answer → Answer → Type 0
AreOne a b = (a ≡ b) ⊎ (IsStop (Ok a) ⊎ IsStop (Ok b))

module _ (law : JudgementsAgree) (word : List ℕ) (IsTold : ℕ → Option (List ℕ) → Game → Answer → Type 0) (given : List ℕ)
    (one : (lines : ℕ) (t u : Option (List ℕ)) (game : Game) (a b : Answer) → option_map lines_of t ≡ option_map lines_of u → IsTold lines t game a → IsTold lines u game b → AreOne a b) where
  one_told : (f g : List ℕ) (t u : Option (List ℕ)) → IsMadeOf word given f t → IsMadeOf word given g u → (a b : Answer)
      → IsRecordAnswer f (IsTold (length (lines_of f) + 1) t) a → IsRecordAnswer g (IsTold (length (lines_of g) + 1) u) b → AreOne a b
  one_told f g t u p q a b (bad text h) (bad other k) =
      let same = law g _ _ (judged_as f g _ (one_made word given f g t u p q).0 h.judged) k.judged in
      let number : h.number ≡ k.number = cc in
      let due : h.due ≡ k.due = cc in
      let rule : h.rule ≡ k.rule = cc in
      inl (ap Answered (h.told ∙ (λ i. text_of_bad (number i) (due i) (rule i)) ∙ sym k.told))
  one_told f g t u p q a b (bad text h) (lawful game is c says) =
      absurd (let clash = law g _ _ (judged_as f g _ (one_made word given f g t u p q).0 h.judged) is in let never : ⊥ = cc in never)
  one_told f g t u p q a b (lawful game is c says) (bad text k) =
      absurd (let clash = law g _ _ (judged_as f g _ (one_made word given f g t u p q).0 is) k.judged in let never : ⊥ = cc in never)
  one_told f g t u p q a b (lawful game is c says) (lawful other was d tells) =
      let parts = one_made word given f g t u p q in
      let same = law g _ _ (judged_as f g _ parts.0 is) was in
      let history : game.history ≡ other.history = cc in
      let turns : game.turns ≡ other.turns = cc in
      let ending : game.ending ≡ other.ending = cc in
      let next : game.next ≡ other.next = cc in
      let games : game ≡ other = λ i. record { history = history i; turns = turns i; ending = ending i; next = next i } in
      let lines : length (lines_of f) + 1 ≡ length (lines_of g) + 1 = ap (λ (ls : List (List ℕ)). length ls + 1) parts.0 in
      one (length (lines_of g) + 1) t u other a b parts.1
      (subst (λ (k : ℕ). IsTold k t other a) lines (subst (λ (z : Game). IsTold (length (lines_of f) + 1) t z a) games says)) tells

  -- over given bytes there is one answer, unless one of two is a stop
  pub one_parted : (a b : Answer) → IsPartedAnswer word IsTold given a → IsPartedAnswer word IsTold given b → AreOne a b
  one_parted a b p q = one_told p.front q.front p.text q.text p.made q.made a b p.told q.told
