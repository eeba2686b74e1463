-- What document 01 has for each opcode, and what a well-formed word's instruction is.
use mathlib.Core.Path.{◌≡◌, sym, ap, ◌∙◌}
use mathlib.Core.Bool.{Bool, true}
use Prim.Native.Nat.{ℕ, ◌/◌, ◌%◌}
use Rattle.model.specs.Question.{◌and◌}
use Rattle.model.specs.Word.{opcode_of, a_of, b_of, c_of}
use Rattle.model.specs.Machine.{constant, copy, add, subtract, multiply, divide, move, load, store, halt, jump, if_equal, if_less, Instruction, plain}
use Rattle.model.specs.Machine.{end, register, unused, nonzero, formed, by_opcode, decode, has_form, well_formed}
use Rattle.model.proofs.Uses.{has-form}

-- ---- what document 01 has for an opcode

module _ (w : ℕ) where
  abbrev a : ℕ
  a = a_of w

  abbrev b : ℕ
  b = b_of w

  abbrev c : ℕ
  c = c_of w

  pub decode-0 : opcode_of w ≡ 0 → decode w ≡ formed (unused a and unused b and unused c) (end halt)
  unfolding decode by_opcode
  decode-0 e = rw e

  pub decode-1 : opcode_of w ≡ 1 → decode w ≡ formed (register a and unused b) (plain (constant a c))
  unfolding decode by_opcode
  decode-1 e = rw e

  pub decode-2 : opcode_of w ≡ 2 → decode w ≡ formed (register a and register b and unused c) (plain (copy a b))
  unfolding decode by_opcode
  decode-2 e = rw e

  pub decode-3 : opcode_of w ≡ 3 → decode w ≡ formed (register a and register b and register c) (plain (add a b c))
  unfolding decode by_opcode
  decode-3 e = rw e

  pub decode-4 : opcode_of w ≡ 4 → decode w ≡ formed (register a and register b and register c) (plain (subtract a b c))
  unfolding decode by_opcode
  decode-4 e = rw e

  pub decode-5 : opcode_of w ≡ 5 → decode w ≡ formed (register a and register b and register c) (plain (multiply a b c))
  unfolding decode by_opcode
  decode-5 e = rw e

  pub decode-6 : opcode_of w ≡ 6 → decode w ≡ formed (register a and register b and nonzero c) (plain (divide a b c))
  unfolding decode by_opcode
  decode-6 e = rw e

  pub decode-7 : opcode_of w ≡ 7 → decode w ≡ formed (register a and register b) (plain (move a b c))
  unfolding decode by_opcode
  decode-7 e = rw e

  pub decode-8 : opcode_of w ≡ 8 → decode w ≡ formed (register a and register b) (plain (load a b c))
  unfolding decode by_opcode
  decode-8 e = rw e

  pub decode-9 : opcode_of w ≡ 9 → decode w ≡ formed (register a and register b) (plain (store a b c))
  unfolding decode by_opcode
  decode-9 e = rw e

  pub decode-10 : opcode_of w ≡ 10 → decode w ≡ formed (unused a and unused b) (end (jump c))
  unfolding decode by_opcode
  decode-10 e = rw e

  pub decode-11 : opcode_of w ≡ 11 → decode w ≡ formed (register a and unused b) (end (if_equal a (c / 256) (c % 256)))
  unfolding decode by_opcode
  decode-11 e = rw e

  pub decode-12 : opcode_of w ≡ 12 → decode w ≡ formed (register a and register b) (end (if_less a b c))
  unfolding decode by_opcode
  decode-12 e = rw e

-- ---- an opcode and its test

-- a word whose opcode has the test t is well formed exactly where t holds
well : (w : ℕ) (t : Bool) (x : Instruction) → has_form x ≡ true → decode w ≡ formed t x → well_formed w ≡ t
unfolding well_formed
well w t x h e = ap has_form e ∙ has-form t x h

-- and then its instruction is the opcode's
pub decoded : (w : ℕ) (t : Bool) (x : Instruction) → has_form x ≡ true → decode w ≡ formed t x → well_formed w ≡ true → decode w ≡ x
unfolding formed
decoded w t x h e q = let s : t ≡ true = sym (well w t x h e) ∙ q in e ∙ rw s
