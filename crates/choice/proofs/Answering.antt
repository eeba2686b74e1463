-- Laws of the answer: one for each way out of the check.
use mathlib.Core.Path.{◌≡◌, refl, sym, ap, ◌∙◌}
use mathlib.Core.Bool.{true}
use mathlib.Core.List.{List, [], ◌∷◌}
use Prim.Native.Nat.{ℕ, ◌/◌, ◌<◌, ◌≤◌}
use native.Mathlib.Omega.{arith}
use lib.ListN.{length, get_or}
use borrow.Author.Tests.{eq-eqb, eqb-true, leb-true}
use Rattle.model.specs.declared.Verdict.{Verdict}
use Rattle.model.specs.declared.CheckAnswer.{CheckAnswer}
use Rattle.model.specs.declared.OfferedAnswer.{OfferedAnswer}
use Rattle.model.specs.declared.questions.Refusal.{Refusal}
use Rattle.model.specs.Question.{refusal, refusing, Outcome, ok, refused, then, in_order, verdict_of}
use Rattle.model.specs.declared.questions.Question.TheVariants.{NoChoice as q33}
use Rattle.model.specs.Table.{tables_of, Code, Routine, routine_of, rows, tables_ask}
use Rattle.model.specs.Check.{judge, check_ask, check}
use Rattle.model.specs.Cost.{counting}
use Rattle.model.specs.Blank.{blanks_of, offers, Choice, more, search, found, nowhere, Found, open_questions, choosing, filled_with, accepts}
use Rattle.model.specs.Blank.{chosen, choose, by_blanks, offered_check, open_annotations_ask, blanks_ask}
use Rattle.model.proofs.Logic.{ask-ok, verdict-ok, ok-verdict, all-passed, passed-all}
use Rattle.model.proofs.Choice.{Least, least-found, none-nowhere}
use Rattle.model.proofs.InForce.{rows-in-force}
use Rattle.model.proofs.FilledTables.{rows-filled, head-filled, start-filled, filled-tables, no-blanks}
use Rattle.table.proofs.Laws.{routine-count, routine-long, routine-start, routine-annotation, routine-part}
use Rattle.model.proofs.Tests.{row-refused, row-ok}
use Rattle.blank.specs.declared.Blanks.{Blanks}
use Rattle.blank.specs.Force.{Lists, offer_questions, offer_ask}
use Rattle.blank.proofs.Laws.{blanks-below, few-blanks, lengths-well}
use Rattle.verify.specs.Tabled.{Tabled}
use Rattle.verify.specs.Blocks.{first_questions, first_ask, Annotated, Divided, judged}
use Rattle.verify.proofs.Blocks.{tabled, tables-refused, tables-last, check-refused, check-judges, first-refused, first-passed}
use Rattle.choice.specs.Choices.{places_of, filling_of, mosts_of, is_choice, FirstWith, Offers, Routines, Opened}
use Rattle.choice.proofs.Lists.{choice_of, number_of, Blank, Shape, no-blank, one-blank, two-blank, three-blank, shape, is-list, three-places}
use Rattle.choice.proofs.Lists.{number-again, numbered, earlier, force-three, three-listed}

-- ---- the routines that the choices make

module _ (types tags : List ℕ) (C : Code) (offered : List ℕ) (blanks : List ℕ) (most : length C.blocks ≤ 2304) (few : length offered ≤ 64)
    (O : Opened types tags C offered blanks) where
  abbrev l : List ℕ
  l = blanks_of C.blocks

  abbrev m : List ℕ
  m = mosts_of blanks (offers offered)

  blank : Blank l blanks
  blank =
      record {
        lists = O.lists;
        below = λ j h. omega (arith, blanks-below C.blocks j h);
        few = few-blanks 0 C.blocks offered (sym O.lists.fourth);
      }

  S : Shape blanks l
  S = shape l blanks blank

  -- the routine of choice i
  abbrev pub routine : ℕ → Routine
  routine i = routine_of (filled_with types tags C offered (choice_of (length l) i))

  places : (i : ℕ) → is_choice m i ≡ true → Choice (offers offered) (length l) (choice_of (length l) i)
  places i c = is-list blanks (offers offered) i c S

  pub of-choice : (i : ℕ) → is_choice m i ≡ true → Annotated (routine i) C.blocks offered (filling_of blanks i) × Divided (routine i) C
  of-choice i c =
      let D = filled_with types tags C offered (choice_of (length l) i) in
      let Ch = places i c in (
        record {
          count = routine-count D ∙ rows-filled offered C.blocks l (choice_of (length l) i);
          annotation = λ b h.
              routine-annotation D b
              ∙ sym (rows-in-force C.blocks offered (choice_of (length l) i) b Ch h)
              ∙ force-three C.blocks offered blanks i b (omega arith) S;
        },
        record {
          long = λ b. routine-long D b ∙ head-filled offered C.blocks l (choice_of (length l) i) Ch b;
          start = λ b. routine-start D b ∙ start-filled offered C.blocks l (choice_of (length l) i) Ch b;
          part = λ b.
              routine-part D b
              ∙ rw (head-filled offered C.blocks l (choice_of (length l) i) Ch b, start-filled offered C.blocks l (choice_of (length l) i) Ch b);
        },
      )

  pub routines : (m' : List ℕ) → m' ≡ m → Routines routine C offered blanks m'
  routines m' e = rw e (record { annotated = λ i h c. (of-choice i c).0; divided = λ i h c. (of-choice i c).1 })

  -- a choice's check is the judging of its blocks
  tables-ok : (d : List ℕ) → Choice (offers offered) (length l) d → tables_ask types tags (filled_with types tags C offered d) ≡ ok tt
  tables-ok d D = filled-tables types tags C offered d D O.passed

  check-is : (d : List ℕ) → Choice (offers offered) (length l) d
      → check types tags (filled_with types tags C offered d) ≡ verdict_of (judge (tables_of types tags) (routine_of (filled_with types tags C offered d)))
  unfolding check check_ask then
  check-is d D = rw (tables-ok d D) refl

  accepts-ok : (d : List ℕ) → Choice (offers offered) (length l) d → accepts types tags C offered d ≡ true
      → judge (tables_of types tags) (routine_of (filled_with types tags C offered d)) ≡ ok tt
  accepts-ok d D e = verdict-ok _ (ap (λ (v : Verdict). v.number) (sym (check-is d D)) ∙ eqb-true _ _ e)

  ok-accepts : (d : List ℕ) → Choice (offers offered) (length l) d
      → judge (tables_of types tags) (routine_of (filled_with types tags C offered d)) ≡ ok tt → accepts types tags C offered d ≡ true
  ok-accepts d D e = eq-eqb _ _ (ap (λ (v : Verdict). v.number) (check-is d D) ∙ ok-verdict _ e)

  -- ---- the answer past the questions

  abbrev answer : OfferedAnswer
  answer = offered_check types tags C offered

  by-list : {k : List ℕ} → Shape blanks k
      → by_blanks types tags C offered k ≡ choose types tags C offered (get_or blanks 0 0) (in_order (open_questions types tags C offered))
  unfolding by_blanks
  by-list (no-blank e) = absurd (let s = rw e at O.some in omega arith)
  by-list (one-blank e u) = rw e
  by-list (two-blank e u v) = rw e
  by-list (three-blank e u v t) = rw e

  answer-is : (x : Found) → search (accepts types tags C offered) (offers offered) (length l) ≡ x → answer ≡ chosen types tags C offered (get_or blanks 0 0) x
  unfolding offered_check choose
  answer-is x e = by-list S ∙ rw (passed-all _ O.passed, e)

  -- no choice is accepted
  pub none-answer : ((i : ℕ) → i < 512 → is_choice m i ≡ true → judge (tables_of types tags) (routine i) ≡ ok tt → ⊥)
      → choosing (counting (refusing (refusal q33 (get_or blanks 0 0) 0)) 0) [] ≡ answer
  unfolding chosen
  none-answer h =
      sym (answer-is nowhere (none-nowhere _ _ _ (λ d D t.
      let N = numbered blanks (offers offered) (omega arith) S D in
      h (number_of d) N.within N.choice (rw N.same (accepts-ok d D t)))))

  -- nothing is offered
  pub empty-answer : offers offered ≡ 0 → choosing (counting (refusing (refusal q33 (get_or blanks 0 0) 0)) 0) [] ≡ answer
  unfolding chosen
  empty-answer z = sym (answer-is nowhere (none-nowhere _ _ _ (λ d D t. no-choice S d (rw z at D))))
    where
      no-choice : {k : List ℕ} → Shape blanks k → (d : List ℕ) → Choice 0 (length k) d → ⊥
      no-choice (no-blank e) d D = let s = rw e at O.some in omega arith
      no-choice (one-blank e u) [] D = elim D [ ]
      no-choice (two-blank e u v) [] D = elim D [ ]
      no-choice (three-blank e u v t) [] D = elim D [ ]
      no-choice (one-blank e u) (j ∷ js) (more h D) = omega arith
      no-choice (two-blank e u v) (j ∷ js) (more h D) = omega arith
      no-choice (three-blank e u v t) (j ∷ js) (more h D) = omega arith

  -- choice r is the first that is accepted
  pub choice-answer : (r : ℕ) → FirstWith m (λ i. judge (tables_of types tags) (routine i) ≡ ok tt) r
      → choosing (judged (tables_of types tags) (routine r)) (places_of r) ≡ answer
  unfolding chosen
  choice-answer r Z =
      let c = Z.is in
      let D = places r c in
      let d = choice_of (length l) r in
      let least : Least (accepts types tags C offered) (offers offered) (length l) d =
      record {
        choice = D;
        passes = ok-accepts d D Z.has;
        least = λ e E b t.
            let N = numbered blanks (offers offered) (omega arith) S E in
            let u = earlier (offers offered) (omega arith) blank.few E D b in
            Z.before (number_of e) (let w = number-again blanks (offers offered) r c S Z.within in omega arith) N.choice (rw N.same (accepts-ok e E t));
      } in
      three-places blanks (offers offered) r c S _
      ∙ ap (λ (a : CheckAnswer). choosing a d) (check-judges types tags (filled_with types tags C offered d) (tables-ok d D))
      ∙ sym (answer-is (found d) (least-found _ _ _ d least))

  -- number 0 is
  pub first-answers : is_choice m 0 ≡ true → (a : OfferedAnswer) → a ≡ choosing (judged (tables_of types tags) (routine 0)) (places_of 0) → a.number ≡ 0
      → a ≡ answer
  first-answers c a e z =
      e
      ∙ choice-answer 0 (record {
        within = omega arith;
        is = c;
        has = verdict-ok _ (sym (ap (λ (x : OfferedAnswer). x.number) e) ∙ z);
        before = λ i h. absurd (omega arith);
      })

-- ---- what the questions before the choice give

module _ (types tags : List ℕ) (C : Code) (offered : List ℕ) (blanks : List ℕ) (O : Opened types tags C offered blanks) where
  pub tables-opened : Tabled types C
  tables-opened =
      let (t, (c, (s, (l, rest)))) = O.passed in
      tabled types tags C (unfold first_ask in passed-all (first_questions types tags C) (t, (c, (s, (l, tt)))))

  pub list-opened : length offered ≤ 64
  list-opened = let (t, (c, (s, (l, (a, (b, (n, rest))))))) = O.passed in (lengths-well (length offered) n).1

-- and what there is to choose from, where something is offered
pub offers-opened : {types tags : List ℕ} {C : Code} {offered blanks m : List ℕ} → Opened types tags C offered blanks → m ≡ mosts_of blanks (length offered / 8)
    → (length offered / 8 ≡ 0 → ⊥) → Offers blanks m offered
offers-opened {types = types} {tags = tags} {C = C} {offered = offered} {blanks = blanks} O e n =
    record { three = ap length O.lists.three; mosts = e; some = omega arith; few = list-opened types tags C offered blanks O }

-- ---- the answer before it

module _ (types tags : List ℕ) (C : Code) (offered : List ℕ) where
  abbrev the-answer : OfferedAnswer
  the-answer = offered_check types tags C offered

  choose_no : (b : ℕ) {o : Outcome (Unit {0})} {r : Refusal} → o ≡ refused r → choosing (counting (refusing r) 0) [] ≡ choose types tags C offered b o
  unfolding choose
  choose_no b e = rw e refl

  -- a no is the answer, whether a row is blank or not
  stopped : {r : Refusal} → (blanks_of C.blocks ≡ [] → tables_ask types tags C ≡ refused r)
      → in_order (open_questions types tags C offered) ≡ refused r → choosing (counting (refusing r) 0) [] ≡ the-answer
  unfolding offered_check by_blanks
  stopped {r} plain all = go (blanks_of C.blocks) refl
    where
      go : (k : List ℕ) → blanks_of C.blocks ≡ k → choosing (counting (refusing r) 0) [] ≡ by_blanks types tags C offered k
      go [] e = ap (λ (a : CheckAnswer). choosing a []) (check-refused types tags C (plain e))
      go (b ∷ bs) e = choose_no b all

  -- the questions after Q5
  abbrev rest : List (Outcome (Unit {0}))
  rest = open_annotations_ask (rows types) C.blocks ∷ offer_questions (rows types) C.blocks offered

  pub first-answer : {r : Refusal} → first_ask types tags C ≡ refused r → choosing (counting (refusing r) 0) [] ≡ the-answer
  first-answer e = stopped (λ _. tables-refused types tags C e) (first-refused types tags C rest e)

  module _ (q : first_ask types tags C ≡ ok tt) where
    -- with no blank row this check's Q6 is Q6
    plain : blanks_of C.blocks ≡ [] → tables_ask types tags C ≡ open_annotations_ask (rows types) C.blocks
    plain e = tables-last types tags C q ∙ sym (no-blanks (rows types) C.blocks e)

    pub annotation-answer : {r : Refusal} → open_annotations_ask (rows types) C.blocks ≡ refused r → choosing (counting (refusing r) 0) [] ≡ the-answer
    annotation-answer {r} a =
        stopped (λ e. plain e ∙ a) (first-passed types tags C rest q ∙ rw a (row-refused r (offer_questions (rows types) C.blocks offered)))

    module _ (a : open_annotations_ask (rows types) C.blocks ≡ ok tt) where
      pub unread-answer : blanks_of C.blocks ≡ [] → choosing (judged (tables_of types tags) (routine_of C)) [] ≡ the-answer
      unfolding offered_check by_blanks
      unread-answer e = ap (λ (a : CheckAnswer). choosing a []) (check-judges types tags C (plain e ∙ a)) ∙ sym (ap (by_blanks types tags C offered) e)

      all-is : in_order (open_questions types tags C offered) ≡ offer_ask (rows types) C.blocks offered
      unfolding offer_ask
      all-is = first-passed types tags C rest q ∙ rw a (row-ok tt (offer_questions (rows types) C.blocks offered))

      pub offer-answer : {r : Refusal} → offer_ask (rows types) C.blocks offered ≡ refused r → (blanks_of C.blocks ≡ [] → ⊥)
          → choosing (counting (refusing r) 0) [] ≡ the-answer
      offer-answer o some = stopped (λ e. absurd (some e)) (all-is ∙ o)

      -- past Q32 there are at most three blank blocks
      pub opened : offer_ask (rows types) C.blocks offered ≡ ok tt → (r : Blanks) → Lists (blanks_of C.blocks) r → (get_or r.three 0 0) < 256
          → Opened types tags C offered r.three
      unfolding blanks_ask
      opened o r L s =
          let A = all-passed _ (all-is ∙ o) in
          let few = leb-true _ _ (ask-ok _ _ _ A.1.1.1.1.1.0).0 in
          record {
            passed = A;
            lists = three-listed _ r L few;
            some = s;
          }
