-- Laws of a line of output: its answer, what is added in words.
use mathlib.Core.Path.{◌≡◌, refl, sym, ap, subst, ◌∙◌}
use mathlib.Core.Logic.{◌⊎◌, ⊎_elim}
use mathlib.Core.Bool.{Bool, true, false, false≢true}
use mathlib.Core.List.{List, [], ◌∷◌, ◌++◌, append_assoc, append-nil}
use Prim.Native.Nat.{ℕ, ◌+◌, ◌≤◌, min}
use native.Mathlib.Omega.{arith}
use lib.ListN.{length, length-append, get_or, take}
use lib.Seq.{take_all}
use Rattle.std.specs.Prelude.{Option, Some, None}
use borrow.Author.Tests.{eq-eqb, ne_eqb}
use Rattle.model.proofs.Logic.{by_equality, by_less, pick_true, pick-false}
use Rattle.grammar.specs.declared.Form.{Form}
use Rattle.grammar.specs.declared.Form.TheVariants.{Check, Memory, Entry}
use Rattle.grammar.specs.declared.Form.TheVariants.{Run as RunForm}
use Rattle.grammar.specs.Codes.{codes}
use Rattle.grammar.specs.declared.Phase.{Phase}
use Rattle.grammar.specs.declared.Phase.TheVariants.{Gap, Malformed}
use Rattle.protocol.specs.Text.{decimal, fields}
use Rattle.protocol.specs.Said.{Said, nothing as silence, malformed_at, request, said_in, said, parts_in}
use Rattle.output.specs.Digits.{printable, all_from}
use Rattle.output.proofs.Decimals.{decimal-printable, all_append}
use Rattle.output.proofs.Fields.{fields-printable}
use Rattle.reader.specs.declared.Line.{Line}
use Rattle.reader.specs.declared.Pools.{Pools}
use Rattle.reader.specs.Reader.{Reader, reader}
use Rattle.telling.specs.Row.{answer_text}
use Rattle.telling.specs.Told.{Told}
use Rattle.answers.specs.declared.Given.{Given}
use Rattle.answers.specs.declared.Tally.{Tally}
use Rattle.answers.specs.declared.Style.{Style}
use Rattle.answers.specs.Answers.{Answer, choice_text, tally_text, words_of, remark_text, line_number, output_line, line_text}
use Rattle.answers.specs.Answers.{refusal_row, refused, unread, request_answer, judged, checked, ran}
use Rattle.calls.specs.Requests.{check_of, blanks_in, memory_verdict, entry_verdict, run_of}
use Rattle.answers.specs.Gives.{Gives, speaks, answer_in, answer_at, Remarked, Replied}

-- ---- refusals

module _ (row : ℕ) where
  pub refusal_none : (row ≡ 0) ⊎ ((row ≡ 40) ⊎ (row ≡ 100)) → refusal_row row ≡ false
  unfolding refusal_row
  refusal_none h = ⊎_elim (λ e. rw e) (λ k. ⊎_elim (λ e. rw e) (λ e. rw e) k) h

  pub refusal_other : (row ≡ 0 → ⊥) → (row ≡ 40 → ⊥) → (row ≡ 100 → ⊥) → refusal_row row ≡ true
  unfolding refusal_row
  refusal_other a b c = rw (ne_eqb row 0 a, ne_eqb row 40 b, ne_eqb row 100 c)

-- ---- the tally

pub choice_few : (chosen few : ℕ) (choice : List ℕ) → (chosen ≡ 0 → ⊥) → 3 ≡ length choice → few ≡ min chosen 3
    → codes "; rows chosen:" ++ fields (take few choice) ≡ choice_text chosen choice
choice_few chosen few choice e three f =
    ap (λ l. codes "; rows chosen:" ++ fields l) same ∙ sym (pick-false _ _ _ (ne_eqb chosen 0 e))
  where
    same : take few choice ≡ take chosen choice
    same =
        by_less chosen 3
        (λ h. let all : few ≡ chosen = omega (arith, f) in ap (λ k. take k choice) all)
        (λ h. take_all few choice (omega (arith, f, three)) ∙ sym (take_all chosen choice (omega (arith, three))))

pub tally-none : (t : Tally) → t.chosen ≡ 0 → tally_text (Some t) ≡ codes "; fit questions: " ++ decimal t.asked
tally-none t e =
    let count = codes "; fit questions: " ++ decimal t.asked in
    ap (λ xs. count ++ xs) (pick_true _ [] _ (eq-eqb t.chosen 0 e)) ∙ append-nil count

choice-seen : (chosen : ℕ) (choice : List ℕ) → printable (choice_text chosen choice) ≡ true
unfolding all_from
choice-seen chosen choice =
    by_equality chosen 0
    (λ e. rw (eq-eqb chosen 0 e))
    (λ e. rw (ne_eqb chosen 0 e) (all_append 32 126 (codes "; rows chosen:") (fields (take chosen choice)) refl (fields-printable (take chosen choice))))

pub tally-seen : (t : Option Tally) → printable (tally_text t) ≡ true
unfolding all_from
tally-seen None = refl
tally-seen (Some t) =
    all_append 32 126 (codes "; fit questions: " ++ decimal t.asked) (choice_text t.chosen t.choice)
    (all_append 32 126 (codes "; fit questions: ") (decimal t.asked) refl (decimal-printable t.asked))
    (choice-seen t.chosen t.choice)

-- ---- words after an answer

pub unremarked : (worded : Bool) (g : Given) (out : List ℕ) → worded ≡ false → Remarked worded g out out
unfolding all_from
unremarked worded g out h =
    record {
      remark = [];
      seen = refl;
      plain = λ p. refl;
      told = λ p. absurd (false≢true (sym h ∙ p));
      text = sym (append-nil out);
      room = omega arith;
    }

pub remarked : (worded : Bool) (g : Given) (before told after : List ℕ) → worded ≡ true
    → Told (answer_text g.row g.place.first g.place.second) before told
    → after ≡ told ++ tally_text g.tally → length after ≤ length told + 84 → Remarked worded g before after
remarked worded g before told after h x y short =
    record {
      remark = words_of g x.row;
      seen = all_append 32 126 (answer_text g.row g.place.first g.place.second x.row) (tally_text g.tally) x.seen (tally-seen g.tally);
      plain = λ p. absurd (false≢true (sym p ∙ h));
      told = λ p. (x.row, refl);
      text = rw (y, x.appended) (simp append_assoc);
      room = omega (arith, short, x.short, ap length x.appended, length-append before (answer_text g.row g.place.first g.place.second x.row));
    }

-- ---- the answer to a request

pub gives_same : {before after : List ℕ} {g : Given} (a b : Answer) → a ≡ b → Gives before a g after → Gives before b g after
gives_same {before} {after} {g} a b e h = subst (λ x. Gives before x g after) e h

module _ (l : Line) (p : Pools) (m : l.phase ≡ Malformed → ⊥) where
  abbrev parts : List (List ℕ)
  parts = parts_in p.words p.ends l.marked

  answer-in : (q : Phase) → (q ≡ Malformed → ⊥) → answer_in q l p ≡ request_answer l.form parts (take l.stored p.longs)
  answer-in Malformed n = absurd (n refl)
  answer-in _ n = refl

  asked : {a : Answer} → request_answer l.form parts (take l.stored p.longs) ≡ a → a ≡ answer_at l p
  asked e = sym (answer-in l.phase m ∙ e)

  pub asks-check : l.form ≡ Check → checked (check_of parts) (blanks_in parts) ≡ answer_at l p
  unfolding request_answer
  asks-check f = asked (rw f)

  pub asks-memory : l.form ≡ Memory → judged (memory_verdict parts) ≡ answer_at l p
  unfolding request_answer
  asks-memory f = asked (rw f)

  pub asks-entry : l.form ≡ Entry → judged (entry_verdict parts) ≡ answer_at l p
  unfolding request_answer
  asks-entry f = asked (rw f)

  pub asks-run : l.form ≡ RunForm → ran (run_of parts (get_or (take l.stored p.longs) 0 0)) ≡ answer_at l p
  unfolding request_answer
  asks-run f = asked (rw f)

-- ---- what a line says

module _ (l : Line) (p : Pools) where
  abbrev r : Reader
  r = reader l p

  -- a line that has an answer: malformed, or a request
  module _ (C : Said → Answer → Type 0) (m : (place : ℕ) → C (malformed_at place) (unread place))
      (q : (form : Form) (parts : List (List ℕ)) (longs : List ℕ) → C (request form parts longs) (request_answer form parts longs)) where
    spoken-in : (f : Phase) → speaks f ≡ true → C (said_in f r) (answer_in f l p)
    spoken-in Malformed h = m l.stop
    spoken-in Gap h = q _ _ _
    spoken-in _ h = absurd (false≢true h)

    spoken : speaks l.phase ≡ true → C (said r) (answer_at l p)
    unfolding said
    spoken h = spoken-in l.phase h

  pub spoken-text : (lined : Bool) (count : ℕ) (remark : List ℕ) → speaks l.phase ≡ true
      → output_line lined count (answer_at l p) remark ≡ line_text lined count (said r) remark
  unfolding line_text
  spoken-text lined count remark = spoken (λ x a. output_line lined count a remark ≡ line_text lined count x remark) (λ k. refl) (λ f p q. refl)

  pub spoken-refusal : speaks l.phase ≡ true → refusal_row (answer_at l p).given.row ≡ refused (said r)
  unfolding refused
  spoken-refusal = spoken (λ x a. refusal_row a.given.row ≡ refused x) (λ k. refl) (λ f p q. refl)

  pub spoken-words : (row : List ℕ) → speaks l.phase ≡ true → words_of (answer_at l p).given row ≡ remark_text (said r) row
  unfolding remark_text
  spoken-words row = spoken (λ x a. words_of a.given row ≡ remark_text x row) (λ k. refl) (λ f p q. refl)

  silent-in : (f : Phase) → speaks f ≡ false → said_in f r ≡ silence
  silent-in Malformed h = absurd (false≢true (sym h))
  silent-in Gap h = absurd (false≢true (sym h))
  silent-in _ h = refl

  silent : speaks l.phase ≡ false → said r ≡ silence
  unfolding said
  silent h = silent-in l.phase h

  -- ---- a reply

  pub no-reply : (s : Style) (count : ℕ) (out : List ℕ) → speaks l.phase ≡ false → Replied s count (said r) out false out
  unfolding line_text remark_text refused all_from
  no-reply s count out h =
      rw (silent h)
      (record {
        remark = [];
        seen = refl;
        plain = λ p. refl;
        told = λ p. ([], refl);
        text = sym (append-nil out);
        refusal = refl;
        room = omega arith;
      })

  pub replied : (s : Style) (count : ℕ) (out numbered given remarked : List ℕ) (g : Given) → speaks l.phase ≡ true
      → numbered ≡ out ++ line_number s.lined count → length numbered ≤ length out + 21
      → Gives numbered (answer_at l p) g given → Remarked s.worded g given remarked
      → Replied s count (said r) out (refusal_row g.row) (remarked ++ (10 ∷ []))
  replied s count out numbered given remarked g h e short y z =
      let whole : remarked ++ (10 ∷ []) ≡ out ++ output_line s.lined count (answer_at l p) z.remark
      = rw (z.text, y.text, e) (simp append_assoc) in
      record {
        remark = z.remark;
        seen = z.seen;
        plain = z.plain;
        told = λ q. let (row, same) = z.told q in (row, same ∙ ap (λ x. words_of x row) y.given ∙ spoken-words row h);
        text = whole ∙ ap (λ xs. out ++ xs) (spoken-text s.lined count z.remark h);
        refusal = ap (λ x. refusal_row x.row) y.given ∙ spoken-refusal h;
        room = omega (arith, short, y.room, z.room, length-append remarked (10 ∷ []));
      }
