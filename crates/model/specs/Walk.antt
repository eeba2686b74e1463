-- 02, card 2: 'An In pointer moved by one size is at most e. Opcode 7 on In with c equal to the size now gives From' .. 'The fact about
-- sizes is shown for a size left open.' Here is what makes that rule right, and why it is one of In alone; Walk is proved in proofs/Walk.antt.
use Rattle.std.specs.Prelude.{◌≡◌, ℕ, ◌+◌, ◌-◌, ◌%◌, ◌^◌, ◌≤◌, ◌<◌}
use Rattle.model.specs.Word.{sum}
use Rattle.model.specs.Types.{Dep, span, word_of}
use Rattle.model.specs.Table.{Tables}
use Rattle.model.specs.Meaning.{Allocation, Meets}

-- p + z, where sums are taken modulo W, as a place of the run from d to e of records of z words
pub record NextPlace (W z d e p : ℕ) : Type 0 where
  pub most : p + z ≤ e
  pub unwrapped : (p + z) % W ≡ p + z
  pub aligned : ((p + z) % W + (W - d)) % W % z ≡ 0

-- 'An In pointer moved by one size is at most e': so it does not wrap, and stays in step. The size z and the width W are left open.
abbrev pub AtMostEnd : Type 0
AtMostEnd = (W z d e p : ℕ) → d ≤ p → p < e → e < W → (e - d) % z ≡ 0 → (p + (W - d)) % W % z ≡ 0 → NextPlace W z d e p

-- A word that is a pointer of rank k (0 Run, 1 From, 2 In) is one of rank j when it is moved by one size: of records of any size, wherever
-- they are allocated.
abbrev pub OneSizeOn : ℕ → ℕ → Type 1
OneSizeOn k j =
    (𝒯 : Tables) (Is : Allocation) (u : ℕ → ℕ) (t p : ℕ) (d e : Dep) → p < 2 ^ 32 → word_of u e < 2 ^ 32
    → Meets 𝒯 Is u p (span k t d e) → Meets 𝒯 Is u (sum p (𝒯.size t)) (span j t d e)

pub record Walk : Type 1 where
  pub at_most_end : AtMostEnd
  -- in the meanings of 01: In gives From
  pub in_gives_from : OneSizeOn 2 1
  -- From may lie past e, so that its sum may wrap: with some sizes, six for one, it need not even give Run
  pub from_need_not_give_run : OneSizeOn 1 0 → ⊥
