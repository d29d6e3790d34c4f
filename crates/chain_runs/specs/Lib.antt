pub mod Chains
pub mod Laws
-- what other crates name of these
pub use Chains.{all_rows, alone, Chain, chain_fault, chain_loop, chain_loops, chain_part, fault_from, fault_or_lines, first_of, in_file, one_table, part_over, tables_in, with_rows}
pub use Laws.{AllFilesAreTheChain, AreChecked, AreFiles, ChainsArePart, ChainsHaveShapes, ChainsJoin, FaultIsOfTheRows, in_rows, LoopsJoin, OnlyFilesAreRefused, PartsJoinToOneRun, WrittenPartsReadBack}
