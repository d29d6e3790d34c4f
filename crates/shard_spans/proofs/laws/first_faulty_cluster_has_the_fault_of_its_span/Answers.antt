use Rattle.shard_spans.proofs.SpanFaults.{first_faulty_cluster_has_the_fault}
use Rattle.shard_spans.proofs.laws.first_faulty_cluster_has_the_fault_of_its_span.Goals as goal

pub returns : goal.returns
returns c = first_faulty_cluster_has_the_fault
