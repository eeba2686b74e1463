-- The cases marked * hold, and so do those that tell wrong readings apart, and those of cards 13, 1, 9 and 12: each is computed.
use mathlib.Core.Path.{refl}
use Rattle.model.specs.Cases.{Cases}
use Rattle.model.specs.Misreadings.{Misreadings}
use Rattle.model.specs.Chains.{ChainCases}
use Rattle.model.specs.Locks.{LockCases}
use Rattle.model.specs.Cost.{CostCases}
use Rattle.model.specs.Blank.{BlankCases}
use Rattle.model.proofs.Compute.{computed}

pub cases-hold : Cases
unfolding computed
cases-hold =
    record {
      untested_pointer = refl;
      tested_pointer = refl;
      other_type = refl;
      both_stores = refl;
      one_store = refl;
      other_base = refl;
      below_alone = refl;
      two_back = refl;
      two_back_meets = refl;
      three_on = refl;
      three_on_misses = refl;
      size_three = refl;
      size_three_misses = refl;
      from_size_three = refl;
      from_size_three_misses = refl;
      in_size_three = refl;
      in_size_three_meets = refl;
      in_size_three_misses = refl;
      in_size_three_twice = refl;
      in_size_three_back = refl;
      in_size_two = refl;
      in_size_two_twice = refl;
      three_walked = refl;
      zero_less_one = refl;
      wrapped_product = refl;
      half_of_seven = refl;
      corrected = refl;
      corrected_weight = refl;
    }

pub misreadings-refused : Misreadings
unfolding computed
misreadings-refused =
    record {
      names_after_close = refl;
      stored_field = refl;
      old_field = refl;
      other_pointer = refl;
      overwritten_bound = refl;
      moved_from = refl;
      closes_earlier = refl;
      other_constant = refl;
      tagged_base = refl;
      offset_at_size = refl;
      offset_signed = refl;
      start_inside = refl;
      end_wraps = refl;
      start_zero = refl;
      overlap = refl;
      beyond_table = refl;
      gap = refl;
      pause_inside = refl;
      fault_after = refl;
      signed_less = refl;
    }

pub chains-hold : ChainCases
unfolding computed
chains-hold =
    record {
      chained = (refl, refl);
      longest = (refl, refl);
      meeting = (refl, refl);
      circle = (refl, refl);
      unjoined = (refl, refl);
      constant_on = (refl, refl);
      other_constant = (refl, refl);
      tag_on = (refl, refl);
      first_of_two = (refl, refl);
      second_of_two = (refl, refl);
      neither_of_two = (refl, refl);
      tag_by_either = (refl, refl);
      fields_on = (refl, refl);
      other_record = (refl, refl);
      walk_on = (refl, refl);
      no_reference = (refl, refl);
      no_refinement = (refl, refl);
      with_stores = (refl, refl);
    }

pub locks-hold : LockCases
unfolding computed
locks-hold =
    record {
      over_the_raw = refl;
      in_the_corrected = refl;
      of_the_raw = refl;
      written = refl;
      written_back = refl;
      beside = refl;
      past = refl;
      while_open = refl;
      beside_while_open = refl;
      load_while_open = refl;
      followed = refl;
      closed = refl;
      behind = refl;
      of_a_field = refl;
      other_kind = refl;
      past_the_fields = refl;
      annotation = refl;
      annotated_ref = refl;
      met = refl;
      unmet = refl;
      entered = refl;
      not_entered = refl;
    }

pub costs-hold : CostCases
unfolding computed
costs-hold =
    record {
      both_edges = (refl, refl);
      untaken_fails = (refl, refl);
      bound_reached = (refl, refl);
      taken_fails = (refl, refl);
      jump_met = (refl, refl);
      jump_missed = (refl, refl);
      both_stores = (refl, refl);
      first_field_fails = (refl, refl);
      left_open = (refl, refl);
      size_one = (refl, refl);
      no_reference = (refl, refl);
      past_the_size = (refl, refl);
      locked_field = (refl, refl);
      other_record = (refl, refl);
      load_alone = (refl, refl);
      no_target = (refl, refl);
      by_a_table = (refl, refl);
    }

pub blanks-hold : BlankCases
unfolding computed
blanks-hold =
    record {
      two_blank = refl;
      three_places = refl;
      two_accepted = refl;
      three_blank = refl;
      rows_of_blocks = (refl, refl);
      plain = refl;
      none_fits = refl;
      none_offered = refl;
      unread = refl;
      bad_length = refl;
      nine_rows = refl;
      bad_row = refl;
      marked_row = refl;
      fourth = refl;
      one_word = refl;
      annotation_first = refl;
      length_first = refl;
      row_first = refl;
    }
