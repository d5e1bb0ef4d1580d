-- What a list of refusals gives is the number that its tests compute; 0 grants every fact, any other number names the row that refuses.
use Prim.Native.Nat.{ℕ, zero, suc, ◌<◌}
use mathlib.Core.Bool.{Bool, true, false, not, cond}
use mathlib.Core.List.{List, [], ◌∷◌}
use mathlib.Core.Logic.{◌⊎◌, inl, inr, ⊎_elim, ◌↔◌}
use mathlib.Core.Path.{◌≡◌, refl, sym, ap, ◌∙◌}
use native.Mathlib.Omega.{arith}
use lib.Dec.{ltb, eqb}
use lib.ListN.{take, drop}
use Rattle.laws.specs.Refusal.{Row, number_of, Passes, Stops, Gives}
use Rattle.laws.specs.Inner.{Says, fact_of, passes, number_given, Tested, Answers, every_number, PassesAt, StopsAt, rows_before}
use Rattle.laws.proofs.Says.{says_false, says_not, says_eq, says_lt, both}

-- A row's test says that the row is passed, and its opposite that it refuses.
passes_says : (row : Row) (test : Bool) → Says test (fact_of row) → Says (passes row test) (Passes row)
passes_says (Row.unless k fact) test s = s
passes_says (Row.when k fact) test s = says_not s

stops_says : (row : Row) (test : Bool) → Says test (fact_of row) → Says (not (passes row test)) (Stops row)
stops_says (Row.unless k fact) test s = says_not s
stops_says (Row.when k fact) true s = s
stops_says (Row.when k fact) false s = s

never : (row : Row) → Passes row → Stops row → ⊥
never (Row.unless k fact) p s = s p
never (Row.when k fact) p s = p s

-- One row and what the rows after it give.
one_row : {P Q G : Type 0} {k m n : ℕ} (b : Bool) → Says b P → Says (not b) Q → (P → G ↔ (k ≡ m)) → ((Q × (k ≡ n)) ⊎ (P × G)) ↔ (k ≡ cond b m n)
one_row true p q next = (⊎_elim (λ z. absurd (says_false q refl z.0)) (λ z. (next z.0).0 z.1), (λ e. let f = p.means refl in inr (f, (next f).1 e)))
one_row false p q next = (⊎_elim (λ z. z.1) (λ z. absurd (says_false p refl z.0)), (λ e. inl (q.means refl, e)))

-- The list gives exactly the number that is computed.
pub gives_exactly : (rows : List Row) (tests : List Bool) → Tested rows tests → (k : ℕ) → Gives rows k ↔ (k ≡ number_given rows tests)
unfolding Gives number_given
gives_exactly [] [] Tested.end k = ((λ e. e), (λ e. e))
gives_exactly [] (test ∷ tests) s k = elim s [ ]
gives_exactly (row ∷ rows) [] s k = elim s [ ]
gives_exactly (row ∷ rows) (test ∷ tests) (Tested.says s next) k =
    one_row (passes row test) (passes_says row test s) (stops_says row test s) (λ p. gives_exactly rows tests (next p) k)

-- The first n rows are a list of their own.
pub tested_take : (n : ℕ) (rows : List Row) (tests : List Bool) → Tested rows tests → Tested (take n rows) (take n tests)
tested_take zero rows tests s = Tested.end
tested_take (suc n) [] [] Tested.end = Tested.end
tested_take (suc n) [] (test ∷ tests) s = elim s [ ]
tested_take (suc n) (row ∷ rows) [] s = elim s [ ]
tested_take (suc n) (row ∷ rows) (test ∷ tests) (Tested.says s next) = Tested.says s (λ p. tested_take n rows tests (next p))

-- A list gives one number only.
pub gives_once : (rows : List Row) (j k : ℕ) → Gives rows j → Gives rows k → j ≡ k
unfolding Gives
gives_once [] j k e f = e ∙ sym f
gives_once (row ∷ rows) j k (inl g) (inl h) = g.1 ∙ sym h.1
gives_once (row ∷ rows) j k (inl g) (inr h) = absurd (never row h.0 g.0)
gives_once (row ∷ rows) j k (inr g) (inl h) = absurd (never row g.0 h.0)
gives_once (row ∷ rows) j k (inr g) (inr h) = gives_once rows j k g.1 h.1

-- No row has number 0.
abbrev pub NoneZero : List Row → Type 0
NoneZero rows = every_number (ltb 0) rows ≡ true

-- Number 0 grants the facts of all rows; ask for them by number.
pub granted : (rows : List Row) → NoneZero rows → Gives rows 0 → (n : ℕ) → PassesAt rows n
unfolding Gives every_number PassesAt
granted [] e g n = tt
granted (row ∷ rows) e (inl z) n = absurd (omega (arith, (says_lt 0 (number_of row)).means (both (ltb 0 (number_of row)) (every_number (ltb 0) rows) e).0, z.1))
granted (row ∷ rows) e (inr z) n = by (eqb n (number_of row)) z.0 (granted rows (both (ltb 0 (number_of row)) (every_number (ltb 0) rows) e).1 z.1 n)
  where
    by : (b : Bool) → Passes row → PassesAt rows n → cond b (Passes row × PassesAt rows n) (PassesAt rows n)
    by true p later = (p, later)
    by false p later = later

-- Any other number is that of a row that refuses ..
pub stopped : (rows : List Row) (k : ℕ) → (k ≡ 0 → ⊥) → Gives rows k → StopsAt rows k
unfolding Gives StopsAt
stopped [] k h g = h g
stopped (row ∷ rows) k h (inl z) = by (eqb k (number_of row)) (says_eq k (number_of row))
  where
    by : (b : Bool) → Says b (k ≡ number_of row) → cond b (Stops row ⊎ StopsAt rows k) (StopsAt rows k)
    by true s = inl z.0
    by false s = absurd (says_false s refl z.1)
stopped (row ∷ rows) k h (inr z) = by (eqb k (number_of row)) (stopped rows k h z.1)
  where
    by : (b : Bool) → StopsAt rows k → cond b (Stops row ⊎ StopsAt rows k) (StopsAt rows k)
    by true later = inr later
    by false later = later

-- .. and the rows before it are passed: they grant their facts too.
passed_before : (rows : List Row) (k : ℕ) → (k ≡ 0 → ⊥) → Gives rows k → Gives (rows_before k rows) 0
unfolding Gives rows_before
passed_before [] k h g = absurd (h g)
passed_before (row ∷ rows) k h (inl z) = by (eqb k (number_of row)) (says_eq k (number_of row))
  where
    by : (b : Bool) → Says b (k ≡ number_of row) → Gives (cond b [] (row ∷ rows_before k rows)) 0
    by true s = refl
    by false s = absurd (says_false s refl z.1)
passed_before (row ∷ rows) k h (inr z) = by (eqb k (number_of row)) (passed_before rows k h z.1)
  where
    by : (b : Bool) → Gives (rows_before k rows) 0 → Gives (cond b [] (row ∷ rows_before k rows)) 0
    by true later = refl
    by false later = inr (z.0, later)

pub granted_before : (rows : List Row) (k : ℕ) → (k ≡ 0 → ⊥) → NoneZero (rows_before k rows) → Gives rows k → (n : ℕ) → PassesAt (rows_before k rows) n
granted_before rows k h m g = granted (rows_before k rows) m (passed_before rows k h g)

-- What holds of 0 and of every number in the list holds of the number given.
pub number_within : (rows : List Row) (tests : List Bool) (most : ℕ) → 0 < most → every_number (λ k. ltb k most) rows ≡ true → number_given rows tests < most
unfolding number_given every_number
number_within [] tests most h e = h
number_within (row ∷ rows) [] most h e = h
number_within (row ∷ rows) (test ∷ tests) most h e =
    let each = both (ltb (number_of row) most) (every_number (λ k. ltb k most) rows) e in
    by (passes row test) ((says_lt (number_of row) most).means each.0) (number_within rows tests most h each.1)
  where
    by : (b : Bool) → number_of row < most → number_given rows tests < most → cond b (number_given rows tests) (number_of row) < most
    by true here later = later
    by false here later = here

-- As the code goes along a list: a row refuses, or is passed ..
module _ {k : ℕ} {fact : Type 0} {rows : List Row} {test : Bool} {tests : List Bool} where
  pub unless_stops : test ≡ false → Answers (Row.unless k fact ∷ rows) (test ∷ tests) k
  unfolding number_given
  unless_stops e = record { is = ap (λ (b : Bool). cond b (number_given rows tests) k) (sym e) }

  pub unless_passes : {r : ℕ} → test ≡ true → Answers rows tests r → Answers (Row.unless k fact ∷ rows) (test ∷ tests) r
  unfolding number_given
  unless_passes e f = record { is = f.is ∙ ap (λ (b : Bool). cond b (number_given rows tests) k) (sym e) }

  pub when_stops : test ≡ true → Answers (Row.when k fact ∷ rows) (test ∷ tests) k
  unfolding number_given
  when_stops e = record { is = ap (λ (b : Bool). cond (not b) (number_given rows tests) k) (sym e) }

  pub when_passes : {r : ℕ} → test ≡ false → Answers rows tests r → Answers (Row.when k fact ∷ rows) (test ∷ tests) r
  unfolding number_given
  when_passes e f = record { is = f.is ∙ ap (λ (b : Bool). cond (not b) (number_given rows tests) k) (sym e) }

-- .. to the end of the list.
pub accepts : Answers [] [] 0
unfolding number_given
accepts = record { is = refl }

-- What the code returns is then what the list gives.
pub answers : {rows : List Row} {tests : List Bool} {r : ℕ} → Answers rows tests r → r ≡ number_given rows tests
answers a = a.is

-- The first n rows are looked at elsewhere, with number r: it is given ..
pub begun_stops : (n : ℕ) {rows : List Row} {tests : List Bool} {r : ℕ} → r ≡ number_given (take n rows) (take n tests) → (r ≡ 0 → ⊥) → Answers rows tests r
unfolding number_given
begun_stops n {rows} {tests} {r} e h = record { is = go n rows tests e }
  where
    later : (b : Bool) (k : ℕ) {first all : ℕ} → r ≡ cond b first k → (r ≡ first → r ≡ all) → r ≡ cond b all k
    later true k e next = next e
    later false k e next = e

    go : (n : ℕ) (rows : List Row) (tests : List Bool) → r ≡ number_given (take n rows) (take n tests) → r ≡ number_given rows tests
    go zero rows tests e = absurd (h e)
    go (suc n) [] tests e = absurd (h e)
    go (suc n) (row ∷ rows) [] e = absurd (h e)
    go (suc n) (row ∷ rows) (test ∷ tests) e = later (passes row test) (number_of row) e (go n rows tests)

-- .. or it is 0, and the other rows decide.
pub begun_passes : (n : ℕ) {rows : List Row} {tests : List Bool} {r s : ℕ} → NoneZero rows → r ≡ number_given (take n rows) (take n tests) → r ≡ 0
    → Answers (drop n rows) (drop n tests) s → Answers rows tests s
unfolding number_given every_number
begun_passes n {rows} {tests} {r} {s} m e z f = record { is = go n rows tests m e f.is }
  where
    later : (b : Bool) (k : ℕ) {first all : ℕ} → r ≡ cond b first k → 0 < k → (r ≡ first → s ≡ all) → s ≡ cond b all k
    later true k e h next = next e
    later false k e h next = absurd (omega arith)

    untested : (rows : List Row) → number_given rows [] ≡ 0
    untested [] = refl
    untested (row ∷ rows) = refl

    go : (n : ℕ) (rows : List Row) (tests : List Bool) → NoneZero rows → r ≡ number_given (take n rows) (take n tests)
        → s ≡ number_given (drop n rows) (drop n tests) → s ≡ number_given rows tests
    go zero rows tests m e f = f
    go (suc n) [] tests m e f = f
    go (suc n) (row ∷ rows) [] m e f = f ∙ untested (drop n rows)
    go (suc n) (row ∷ rows) (test ∷ tests) m e f =
        let each = both (ltb 0 (number_of row)) (every_number (ltb 0) rows) m in
        later (passes row test) (number_of row) e ((says_lt 0 (number_of row)).means each.0) (λ h. go n rows tests each.1 h f)
