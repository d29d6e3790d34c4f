use Rattle.block_laws.proofs.Costs.{blocks_go_on, first_is, plain_first, marked_within, block_then_rest, count_goes_on}
use Rattle.block_laws.proofs.laws.laws_hold.Goals as goal

pub returns : goal.returns
returns c =
    record {
      blocks_go_on = blocks_go_on;
      first_block_is_whole = first_is;
      plain_blocks_are_even = plain_first;
      block_then_rest = block_then_rest;
      count_goes_on = count_goes_on;
      marked_are_within = marked_within;
    }
