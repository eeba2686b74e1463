-- A number in one piece: a law for each way out of the code, and what is found.
use mathlib.Core.Path.{◌≡◌, sym, ap}
use mathlib.Core.List.{List, [], ◌∷◌}
use Rattle.std.specs.Prelude.{Option, None, Some}
use Prim.Native.Nat.{ℕ, suc, ◌+◌, ◌*◌, ◌<◌, ◌≤◌}
use native.Mathlib.Omega.{arith}
use native.Mathlib.Numerals.{add-one}
use lib.Dec.{ltb, eqb}
use lib.ListN.{length, drop, get_or, length-drop, drop_of_length-le}
use lib.Seq.{drop-cons}
use borrow.Author.Tests.{ltb-true, lt-ltb, le-ltb}
use Rattle.model.proofs.Logic.{by_test}
use Rattle.grammar.specs.Grammar.{word_end}
use Rattle.grammar.specs.Phase.{blank}
use Rattle.numeral.specs.declared.Found.{Found}
use Rattle.numeral.specs.Digit.{numeral, nought, ex}
use Rattle.numeral.specs.Scan.{scanned, not_found, first_of, closed, scan, scan_decimal, scan_hex, scan_number}

-- ---- the loop of the scan

module _ (radix o : ℕ) (bytes : List ℕ) (i v k b d : ℕ) (h : i < length bytes) (same : b ≡ get_or bytes i 0) (ed : d ≡ numeral b) where
  pub scan-on : (v' k' : ℕ) → d < radix → v' ≡ v * radix + d → k' ≡ suc k → v' < word_end
      → scan radix o v k (drop i bytes) ≡ scan radix o v' k' (drop (i + 1) bytes)
  unfolding scan
  scan-on v' k' m ev ek l = rw (drop-cons bytes i 0 h, ← same, ← ed, lt-ltb _ _ m, ← ev, lt-ltb _ _ l, add-one i, ek)

  pub scan-large : (v' : ℕ) → d < radix → v' ≡ v * radix + d → word_end ≤ v' → scan radix o v k (drop i bytes) ≡ not_found
  unfolding scan
  scan-large v' m ev l = rw (drop-cons bytes i 0 h, ← same, ← ed, lt-ltb _ _ m, ← ev, le-ltb _ _ l)

  pub scan-closed : radix ≤ d → scan radix o v k (drop i bytes) ≡ closed o v k b
  unfolding scan
  scan-closed m = rw (drop-cons bytes i 0 h, ← same, ← ed, le-ltb _ _ m)

pub scan-end : (radix o : ℕ) (bytes : List ℕ) (i v k : ℕ) → length bytes ≤ i → scan radix o v k (drop i bytes) ≡ not_found
unfolding scan
scan-end radix o bytes i v k h = rw (drop_of_length-le bytes h)

-- ---- what a scan finds lies in the bytes and is a word

pub none_found : {k v : ℕ} → not_found ≡ scanned k v → ⊥
none_found e = cc

abbrev count_of : Option Found → ℕ
count_of None = 0
count_of (Some f) = f.count

abbrev value_of : Option Found → ℕ
value_of None = 0
value_of (Some f) = f.value

pub found-same : {j v k w : ℕ} → scanned j v ≡ scanned k w → (j ≡ k) × (v ≡ w)
found-same e = (ap count_of e, ap value_of e)

scan-found : (xs : List ℕ) (radix o v j k w : ℕ) → scan radix o v j xs ≡ scanned k w → v < word_end → (j < k) × (k ≤ j + length xs) × (w < word_end)
unfolding scan closed
scan-found [] radix o v j k w e hv = absurd (none_found e)
scan-found (b ∷ bs) radix o v j k w e hv =
    by_test (ltb (numeral b) radix)
    (λ d. by_test (ltb (v * radix + numeral b) word_end)
    (λ q.
    let (n, l, m) = scan-found bs radix o (v * radix + numeral b) (suc j) k w (rw (d, q) at e) (ltb-true _ _ q) in
    (omega arith, omega arith, m))
    (λ q. absurd (none_found (rw (d, q) at e))))
    (λ d. by_test (blank b)
    (λ q. by_test (eqb j o)
    (λ z. absurd (none_found (rw (d, q, z) at e)))
    (λ z.
    let e' : scanned (suc j) v ≡ scanned k w = rw (d, q, z) at e in
    let (ek, ev) = found-same e' in
    (omega arith, omega arith, omega arith)))
    (λ q. absurd (none_found (rw (d, q) at e))))

hex-found : (xs : List ℕ) (k w : ℕ) → scan_hex xs ≡ scanned k w → (0 < k) × (k ≤ length xs) × (w < word_end)
unfolding scan_hex
hex-found [] k w e = absurd (none_found e)
hex-found (a ∷ []) k w e = absurd (none_found e)
hex-found (a ∷ b ∷ bs) k w e =
    by_test (eqb a nought)
    (λ q. by_test (eqb b ex)
    (λ y. let (n, l, m) = scan-found bs 16 2 0 2 k w (rw (q, y) at e) (omega arith) in (omega arith, omega arith, m))
    (λ y. absurd (none_found (rw (q, y) at e))))
    (λ q. absurd (none_found (rw q at e)))

-- what is found first is the one or the other
pub of_first : {P : Type 0} (a b : Option Found) {x : Found} → first_of a b ≡ Some x → (a ≡ Some x → P) → (b ≡ Some x → P) → P
of_first None b e f g = g e
of_first (Some y) b e f g = f e

number-found : (xs : List ℕ) (k w : ℕ) → scan_number xs ≡ scanned k w → (0 < k) × (k ≤ length xs) × (w < word_end)
unfolding scan_number
number-found xs k w e =
    of_first (scan_decimal xs) (scan_hex xs) e
    (λ q. let (n, l, m) = scan-found xs 10 0 0 0 k w q (omega arith) in (n, omega arith, m))
    (λ q. hex-found xs k w q)

pub record Lies (bytes : List ℕ) (at k w : ℕ) : Type 0 where
  pub some : 0 < k
  pub within : at + k ≤ length bytes
  pub word : w < word_end

pub found : (bytes : List ℕ) (at k w : ℕ) → at ≤ length bytes → scanned k w ≡ scan_number (drop at bytes) → Lies bytes at k w
found bytes at k w h s =
    let (n, l, m) = number-found (drop at bytes) k w (sym s) in
    record { some = n; within = omega (arith, length-drop at bytes); word = m }
