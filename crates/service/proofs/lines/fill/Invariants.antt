-- `lines::fill` meets its contract: what is left after the lines so far comes to the same as after the first.
use Rattle.std.proofs.Common.{◌-◌, ◌≤◌, length, drop}
use Rattle.reader.specs.Reader.{Fine}
use Rattle.service.specs.Filling.{standing_at, Same}
use Rattle.service.proofs.lines.fill.Given as goal

abbrev pub invariant-loop-f : goal.invariant-loop-f
invariant-loop-f l =
    record {
      same : Same l.s (standing_at l.initial.f.place l.initial.room.pools) l.initial.room.out (drop l.initial.f.at l.bytes)
          (standing_at l.f.place l.room.pools) l.room.out (drop l.f.at l.bytes);
      further : l.initial.f.at ≤ l.f.at;
      inside : l.f.at ≤ length l.bytes;
      fine : Fine l.f.place.line;
      room : length l.room.out ≤ 2000000;
    }

abbrev pub decreases-loop-f : goal.decreases-loop-f
decreases-loop-f l = length l.bytes - l.f.at
