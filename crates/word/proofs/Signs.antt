-- Facts on signed numbers: a 16-bit number read as signed, and a word moved by a signed number.
use Rattle.std.proofs.Common.{◌≡◌, ℕ, suc, ◌+◌, ◌-◌, ◌%◌, ◌^◌, ◌<◌, ℤ, pos, negsuc, ◌+ℤ◌, ◌-ℤ◌, refl, ap, ◌∙◌, arith, to_z-of_z, w32, w64, SFits, to_z, of_z, le-ltb, lt-ltb}
use mir.Facts.{to_z_pos}
use Rattle.model.specs.Word.{signed, moved}
use Rattle.model.proofs.Logic.{by_less}

-- ---- c read as signed

-- c gone round by half of 2^16
abbrev pub round : ℕ → ℕ
round c = (c + 32768) % 65536

-- and back by as much
back : (c : ℕ) → c < 65536 → pos (round c) -ℤ pos 32768 ≡ signed c
back c h =
    by_less c 32768
    (λ l. let e : round c ≡ c + 32768 = omega arith in simp (e, le-ltb (c + 32768) 32768 (omega arith), lt-ltb c 32768 l) (ap pos (omega arith)))
    (λ l. let e : round c ≡ c - 32768 = omega arith in simp (e, lt-ltb (c - 32768) 32768 (omega arith), le-ltb c 32768 l) (ap negsuc (omega arith)))

rounded : (c : ℕ) → c < 65536 → to_z w32 (round c) -ℤ pos 32768 ≡ signed c
rounded c h = rw (to_z_pos w32 {n = round c} (omega arith)) (back c h)

narrow : (c : ℕ) → c < 65536 → SFits w32 (signed c)
narrow c h =
    by_less c 32768 (λ l. rw (lt-ltb c 32768 l) (record { sfits = omega arith })) (λ l. rw (le-ltb c 32768 l) (record { sfits = omega arith }))

pub signed-fits : (c : ℕ) → c < 65536 → SFits w32 (to_z w32 (round c) -ℤ pos 32768)
signed-fits c h = rw (rounded c h) (narrow c h)

pub signed_is : (c : ℕ) → c < 65536 → to_z w32 (of_z w32 (to_z w32 (round c) -ℤ pos 32768)) ≡ signed c
signed_is c h = to_z-of_z (signed-fits c h) ∙ rounded c h

-- ---- a word moved by d

-- d raised by 2^32
abbrev raised : ℤ → ℕ
raised (pos n) = n + 4294967296
raised (negsuc n) = 4294967296 - suc n

module _ (d : ℤ) (f : SFits w32 d) where
  pub widened : SFits w64 (to_z w32 (of_z w32 d))
  widened = rw (to_z-of_z f) (record { sfits = omega (arith, f.sfits) })

raise : (d : ℤ) → SFits w32 d → d +ℤ pos 4294967296 ≡ pos (raised d)
raise (pos n) f = refl
raise (negsuc n) f = simp (le-ltb 4294967296 (suc n) (omega (arith, f.sfits)))

pub raised-small : (d : ℤ) → SFits w32 d → raised d < 6442450945
raised-small (pos n) f = omega (arith, f.sfits)
raised-small (negsuc n) f = omega (arith, f.sfits)

-- what the casts and the sum compute
abbrev pub shifted : ℤ → ℤ
shifted d = to_z w64 (of_z w64 (to_z w32 (of_z w32 d))) +ℤ pos 4294967296

shift : (d : ℤ) → SFits w32 d → shifted d ≡ pos (raised d)
shift d f = rw (to_z-of_z (widened d f), to_z-of_z f) (raise d f)

pub shifted_fits : (d : ℤ) → SFits w32 d → SFits w64 (shifted d)
shifted_fits d f = rw (shift d f) (record { sfits = omega (arith, raised-small d f) })

-- what is left after the last cast
pub shifted_back : (d : ℤ) → SFits w32 d → to_z w64 (of_z w64 (shifted d)) ≡ pos (raised d)
shifted_back d f = to_z-of_z (shifted_fits d f) ∙ shift d f

pub moved-raised : (x : ℕ) (d : ℤ) → SFits w32 d → (x + raised d % 2 ^ 32) % 2 ^ 32 ≡ moved x d
moved-raised x (pos n) f = omega arith
moved-raised x (negsuc n) f = ap (λ (k : ℕ). (x + k) % 2 ^ 32) (omega (arith, f.sfits))
