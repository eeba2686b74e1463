-- Laws of the bytes of a line, and of what is served to them.
use Rattle.std.proofs.Common.{◌≡◌, ℕ, suc, ◌+◌, ◌-◌, ◌<◌, ◌≤◌, Bool, true, eqb, List, [], ◌∷◌, ◌++◌, length, get_or, take, drop, sym, refl, ap, ◌∙◌}
use Rattle.std.proofs.Common.{subst, append_assoc, append-nil, le_of_suc-le-suc, not-suc-le-zero, arith, length-drop, get_or-drop, drop-cons}
use Rattle.std.proofs.Common.{drop-drop, eq-eqb, ne_eqb, eqb-true, ◌==◌, Option, Some, None, cond, nat_lt, unwrap_or, take_all}
use Rattle.std.specs.List.{position_or_len}
use borrow.Author.Tests.{lt-ltb, le-ltb}
use Rattle.model.specs.Question.{pick}
use Rattle.model.proofs.Logic.{by_test, by_less, pick_true, pick-false}
use Rattle.reader.specs.declared.Line.{Line}
use Rattle.reader.specs.declared.Pools.{Pools}
use Rattle.reader.specs.Reader.{Reader, reader, on_line, fresh_line, past, reads, at_end, Fine}
use Rattle.reader.proofs.Keeps.{fine-fresh}
use Rattle.protocol.specs.Said.{said}
use Rattle.service.specs.declared.Place.{Place}
use Rattle.answers.specs.declared.Style.{Style}
use Rattle.answers.specs.Answers.{refused, line_text, remark_text}
use Rattle.answers.specs.Gives.{Replied}
use Rattle.service.specs.Filling.{standing_at, placed, Ready, Answered, Same, Finished}
use Rattle.service.specs.Served.{newline, spoken, to_end, Standing, standing, further, next_line, line_answer, along_by}
use Rattle.service.specs.Served.{served, stood, last_answer, last_refused}

-- ---- where a line ends

drop_more : (xs : List ℕ) (i : ℕ) → i < length xs → drop i xs ≡ get_or xs i 0 ∷ drop (i + 1) xs
drop_more xs i h = let more : suc i ≡ i + 1 = omega arith in drop-cons xs i 0 h ∙ ap (λ k. get_or xs i 0 ∷ drop k xs) more

-- the search for a newline gives where it is, or the length
first_newline : (xs : List ℕ) → position_or_len (λ b. b == newline) xs ≡ to_end xs
unfolding to_end
first_newline [] = refl
first_newline (b ∷ bs) = by_test (eqb b newline) (λ h. rw h) (λ h. rw h (omega (arith, first_newline bs)))

end-within : (xs : List ℕ) → to_end xs ≤ length xs
unfolding to_end
end-within [] = omega arith
end-within (b ∷ bs) = by_test (eqb b newline) (λ h. rw h (omega arith)) (λ h. rw h (omega (arith, end-within bs)))

pub newline_or_all : (xs : List ℕ) (r : Option ℕ)
    → r ≡ cond (nat_lt (position_or_len (λ b. b == newline) xs) (length xs)) (Some (position_or_len (λ b. b == newline) xs)) None
    → unwrap_or r (length xs) ≡ to_end xs
newline_or_all xs r e =
    by_less
    (to_end xs)
    (length xs)
    (λ h. rw (e, first_newline xs, lt-ltb (to_end xs) (length xs) h))
    (λ h. rw (e, first_newline xs, le-ltb (to_end xs) (length xs) h) (omega (arith, end-within xs)))

-- among the bytes from a place on
pub end_from : (bytes : List ℕ) (from n : ℕ) → n ≡ to_end (take (length bytes - from) (drop from bytes)) → from + n ≡ from + to_end (drop from bytes)
end_from bytes from n e =
    let long = length-drop from bytes in
    ap (λ k. from + k) (e ∙ ap to_end (take_all (length bytes - from) (drop from bytes) (omega (arith, long))))

-- ---- a line at its end

module _ (s : Style) (l m : Line) (p p' : Pools) (count : ℕ) (flag : Bool) (before after : List ℕ) (reply : Bool) where
  abbrev t : Standing
  t = standing (reader l p) count flag

  pub answered-line : reader m p' ≡ at_end (reader l p) → Replied s count (said (reader m p')) before reply after
      → Answered s t before (standing_at (placed fresh_line (past count 1) (pick flag true reply)) p') after
  answered-line x y =
      let same = ap (λ (r : Reader). said r) x in
      record {
        remark = y.remark;
        seen = y.seen;
        plain = y.plain;
        told = λ p. let (row, e) = y.told p in (row, e ∙ ap (λ x. remark_text x row) same);
        text = rw (sym same) y.text;
        next = next-standing (ap (λ (r : Reader). on_line r fresh_line) x) (y.refusal ∙ ap refused same);
        room = y.room;
      }
    where
      next-standing : {r : Reader} {f : Bool} → r ≡ on_line (at_end (reader l p)) fresh_line → f ≡ refused (said (at_end (reader l p)))
          → standing r (past count 1) (pick flag true f) ≡ next_line t
      next-standing a b = rw (a, b)

-- ---- up to the end of a line

along-served : (lined : Bool) (u : Standing) (xs : List ℕ) → served lined u xs ≡ served lined (along_by u (take (to_end xs) xs)) (drop (to_end xs) xs)
unfolding to_end served reads
along-served lined u [] = refl
along-served lined u (b ∷ bs) =
    let from : ℕ → List ℕ = λ k. served lined (along_by u (take k (b ∷ bs))) (drop k (b ∷ bs)) in
    by_test
    (eqb b newline)
    (λ h. sym (ap from (pick_true _ 0 (suc (to_end bs)) h)))
    (λ h. pick-false _ _ (served lined (further u b) bs) h ∙ along-served lined (further u b) bs ∙ sym (ap from (pick-false _ 0 (suc (to_end bs)) h)))

along-stood : (u : Standing) (xs : List ℕ) → stood u xs ≡ stood (along_by u (take (to_end xs) xs)) (drop (to_end xs) xs)
unfolding to_end stood reads
along-stood u [] = refl
along-stood u (b ∷ bs) =
    let from : ℕ → Standing = λ k. stood (along_by u (take k (b ∷ bs))) (drop k (b ∷ bs)) in
    by_test
    (eqb b newline)
    (λ h. sym (ap from (pick_true _ 0 (suc (to_end bs)) h)))
    (λ h. pick-false _ _ (stood (further u b) bs) h ∙ along-stood (further u b) bs ∙ sym (ap from (pick-false _ 0 (suc (to_end bs)) h)))

ends_at : (xs : List ℕ) → to_end xs < length xs → get_or xs (to_end xs) 0 ≡ newline
unfolding to_end
ends_at [] h = absurd (not-suc-le-zero h)
ends_at (b ∷ bs) h =
    by_test
    (eqb b newline)
    (λ e. ap (λ k. get_or (b ∷ bs) k 0) (pick_true _ 0 (suc (to_end bs)) e) ∙ eqb-true b newline e)
    (λ e.
    let k = pick-false _ 0 (suc (to_end bs)) e in
    ap (λ j. get_or (b ∷ bs) j 0) k ∙ ends_at bs (le_of_suc-le-suc (subst (λ j. j < length (b ∷ bs)) k h)))

-- ---- what is left from here comes to the same

module _ (s : Style) where
  pub same_then : {t u v : Standing} {a b c xs ys zs : List ℕ} → Same s t a xs u b ys → Same s u b ys v c zs → Same s t a xs v c zs
  same_then x y = record { stands = x.stands ∙ y.stands; text = λ p. x.text p ∙ y.text p }

  pub same-still : {u : Standing} {a xs : List ℕ} → Same s u a xs u a xs
  same-still = record { stands = refl; text = λ p. refl }

  -- as far as the line goes
  pub same-along : (r q : Reader) (count : ℕ) (flag : Bool) (out bytes : List ℕ) (from stop : ℕ) → stop ≡ from + to_end (drop from bytes)
      → q ≡ reads r (take (stop - from) (drop from bytes))
      → Same s (standing r count flag) out (drop from bytes) (standing q count flag) out (drop stop bytes)
  same-along r q count flag out bytes from stop e x =
      let xs = drop from bytes in
      let k : stop - from ≡ to_end xs = omega (arith, e) in
      let rest : drop (to_end xs) xs ≡ drop stop bytes = drop-drop (to_end xs) from bytes ∙ ap (λ j. drop j bytes) (sym e) in
      let read : reads r (take (to_end xs) xs) ≡ q = sym (x ∙ ap (λ j. reads r (take j xs)) k) in
      record {
        stands = along-stood (standing r count flag) xs ∙ rw (rest, read);
        text = λ p. ap (λ z. out ++ z) (along-served s.lined (standing r count flag) xs ∙ rw (rest, read));
      }

  -- over the line's end
  pub same_over : (u v : Standing) (before after bytes : List ℕ) (from stop : ℕ) → stop ≡ from + to_end (drop from bytes) → stop < length bytes
      → Answered s u before v after → Same s u before (drop stop bytes) v after (drop (stop + 1) bytes)
  unfolding served stood
  same_over u v before after bytes from stop e h x =
      let xs = drop from bytes in
      let long : length xs ≡ length bytes - from = length-drop from bytes in
      let ends : get_or bytes stop 0 ≡ newline
      = ap (λ k. get_or bytes k 0) e ∙ sym (get_or-drop from bytes (to_end xs) 0) ∙ ends_at xs (omega (arith, long, e, h)) in
      let cut : drop stop bytes ≡ newline ∷ drop (stop + 1) bytes
      = drop_more bytes stop h ∙ ap (λ b. b ∷ drop (stop + 1) bytes) ends in
      let rest = drop (stop + 1) bytes in
      record {
        stands = ap (stood u) cut ∙ ap (λ w. stood w rest) (sym x.next);
        text = λ p.
            let held : after ≡ before ++ line_answer s.lined u = x.text ∙ ap (λ r. before ++ line_text s.lined u.count (spoken u) r) (x.plain p) in
            ap (λ z. before ++ served s.lined u z) cut
            ∙ ap (λ w. before ++ (line_answer s.lined u ++ served s.lined w rest)) (sym x.next)
            ∙ sym (append_assoc before (line_answer s.lined u) (served s.lined v rest))
            ∙ ap (λ z. z ++ served s.lined v rest) (sym held);
      }

-- a line begins fresh
pub fine-next : {s : Style} {u : Standing} {before after : List ℕ} (q : Place) (p : Pools)
    → Answered s u before (standing_at q p) after → Fine q.line
fine-next q p x = fine-fresh q.line (ap (λ (v : Standing). v.reader.line) x.next)

-- ---- an input at its end

module _ (s : Style) (p : Place) (pools : Pools) (out : List ℕ) where
  abbrev last : Standing
  last = standing_at p pools

  pub finished-before : Ready p out → p.line.at ≡ 0 → Finished s last out p out
  unfolding last_answer last_refused
  finished-before k h =
      let b = eq-eqb _ _ h in
      record {
        text = λ q. sym (ap (λ z. out ++ z) (pick_true _ [] _ b) ∙ append-nil out);
        refusal = sym (pick_true _ p.refused _ b);
        fine = k.fine;
        room = omega (arith, k.room);
      }

  pub finished-line : (q : Place) (after-pools : Pools) (after : List ℕ) → Ready p out → (p.line.at ≡ 0 → ⊥)
      → Answered s last out (standing_at q after-pools) after → Finished s last out q after
  unfolding last_answer last_refused
  finished-line q after-pools after k h x =
      let b = ne_eqb _ _ h in
      record {
        text = λ y.
            x.text
            ∙ ap (λ r. out ++ line_text s.lined p.count (spoken last) r) (x.plain y)
            ∙ sym (ap (λ z. out ++ z) (pick-false _ [] (line_answer s.lined last) b));
        refusal = ap (λ (u : Standing). u.refused) x.next ∙ sym (pick-false _ p.refused _ b);
        fine = fine-next q after-pools x;
        room = omega (arith, x.room, k.room);
      }
