-- All definitions that a call computes with, opened at once: what says `unfolding computed` is proved by computing alone.
use Rattle.model.specs.Question.{◌and◌, ◌or◌, every, then, first_no, verdict_of, in_order, provided}
use Rattle.model.specs.Word.{product}
use Rattle.model.specs.Types.{type_of, rename}
use Rattle.model.specs.Table.{row_of, tables_of, locked, start_of, routine_of, type_lengths_ask, code_lengths_ask, count_ask, well_made, field_well, fields_ask}
use Rattle.model.specs.Table.{tag_ask, types_ask, blocks_ask, lengths_ask, annotation_well, annotation_ask, annotations_ask, start_ask, memory_length_ask}
use Rattle.model.specs.Table.{tables_ask}
use Rattle.model.specs.Allocation.{is_allocated, laid, rows_ask, allocations_ask}
use Rattle.model.specs.Machine.{formed, by_opcode, decode, effect, addressed, registers_after, memory_after, next, targets_exist, leave, perform}
use Rattle.model.specs.Machine.{step, onward, finish, steps, run_blocks, answer_of, run_ask, opened, run, carry_out, form_ask}
use Rattle.model.specs.Values.{typed, some, same_dep, lead, along, least_along, root, chain_constant, one_constant, alike, told, constants_joined}
use Rattle.model.specs.Values.{equal_joined, constants_apart, is_same, says_same, equal_apart, constants_of, known_equal}
use Rattle.model.specs.Reading.{tag_of, beyond, known_tag, known_zero, is_ref, is_maybe, is_tagged, is_present, is_span, fits, row_fits, first_tag}
use Rattle.model.specs.Reading.{reference_of, laid_at, zeros, up_from, entry, born, fresh, on_span, moves, walks, moved_word, loaded, viewed, look}
use Rattle.model.specs.Reading.{stored, not_zero, below, not_below, taken, untaken}
use Rattle.model.specs.Check.{with_reference, on_record, read_plain, read_edges, read_instruction, read_on, block_ask, judge, check_ask, check, read_end}
use Rattle.model.specs.MemoryCheck.{when_true, unless_true, starts_test, run_test, rank_test, tag_test, meets, field_ask, records_ask, register_ask}
use Rattle.model.specs.MemoryCheck.{layout_ask, memory_ask, memory_check, entry_ask, entry_check, routine_ask}
use Rattle.model.specs.Chains.{block_apart, judge_apart, check_apart}
use Rattle.model.specs.Cost.{past, plain_asked, edges_asked, instruction_asked, sum_on, sum_in, sum_from, sum_of, check_answer}
use Rattle.model.specs.Blank.{is_blank, blanks_from, offered_row, filled, or_else, try_from, search, open_annotations_ask, blanks_ask, offered_length_ask}
use Rattle.model.specs.Blank.{offered_rows_ask, chosen, choose, by_blanks, offered_check}
use Rattle.model.specs.Turns.{turned, after_call, at_start}

unfoldable pub computed : Unit {0}
unfolding
    ◌and◌ ◌or◌ every provided then in_order first_no verdict_of
    product
    type_of rename
    row_of tables_of locked start_of routine_of type_lengths_ask code_lengths_ask count_ask well_made field_well fields_ask tag_ask types_ask blocks_ask
    lengths_ask annotation_well annotation_ask annotations_ask start_ask memory_length_ask
    is_allocated laid rows_ask allocations_ask
    formed by_opcode decode targets_exist form_ask effect addressed registers_after memory_after next leave carry_out perform step
    onward finish steps run_blocks answer_of run_ask opened run
    typed some same_dep lead along least_along root chain_constant one_constant alike told constants_joined equal_joined
    constants_apart is_same says_same equal_apart constants_of known_equal
    tag_of beyond known_tag known_zero is_ref is_maybe is_tagged is_present is_span fits row_fits first_tag reference_of
    laid_at zeros up_from entry born fresh on_span moves walks moved_word loaded viewed look stored
    not_zero below not_below taken untaken
    with_reference on_record read_plain read_edges read_end read_instruction read_on block_ask judge tables_ask check_ask check
    when_true unless_true starts_test run_test rank_test tag_test meets field_ask records_ask register_ask layout_ask memory_ask memory_check
    routine_ask entry_ask entry_check
    block_apart judge_apart check_apart
    past plain_asked edges_asked instruction_asked sum_on sum_in sum_from sum_of check_answer
    is_blank blanks_from offered_row filled or_else try_from search open_annotations_ask blanks_ask offered_length_ask offered_rows_ask
    chosen choose by_blanks offered_check
    turned after_call at_start
computed = tt
