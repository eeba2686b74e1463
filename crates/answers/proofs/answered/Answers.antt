-- `answered` meets its contract.
use mathlib.Core.Bool.{false≢true}
use Rattle.answers.proofs.Replies.{gives_same, asks-check, asks-memory, asks-entry, asks-run}
use Rattle.answers.proofs.answered.Goals as goal

pub returns-in-Check-clause-answer : goal.returns-in-Check-clause-answer
returns-in-Check-clause-answer c =
    let asks = asks-check c.args.l c.args.room.now.pools (λ z. false≢true (rw z at c.if-eq.ensures)) c.in-Check.is in
    gives_same _ _ (rw (c.check.ensures, c.blanks.ensures, c.of-parts.ensures) asks) c.checked.ensures

pub returns-in-Memory-clause-answer : goal.returns-in-Memory-clause-answer
returns-in-Memory-clause-answer c =
    let asks = asks-memory c.args.l c.args.room.now.pools (λ z. false≢true (rw z at c.if-eq.ensures)) c.in-Memory.is in
    gives_same _ _ (rw (c.memory_check.ensures, c.of-parts.ensures) asks) c.judged.ensures

pub returns-in-Entry-clause-answer : goal.returns-in-Entry-clause-answer
returns-in-Entry-clause-answer c =
    let asks = asks-entry c.args.l c.args.room.now.pools (λ z. false≢true (rw z at c.if-eq.ensures)) c.in-Entry.is in
    gives_same _ _ (rw (c.entry_check.ensures, c.of-parts.ensures) asks) c.judged-in-Entry.ensures

pub returns-in-Run-clause-answer : goal.returns-in-Run-clause-answer
returns-in-Run-clause-answer c =
    let asks = asks-run c.args.l c.args.room.now.pools (λ z. false≢true (rw z at c.if-eq.ensures)) c.in-Run.is in
    gives_same _ _ (rw (c.long.ensures, c.of-parts.ensures) asks) c.ran.ensures
