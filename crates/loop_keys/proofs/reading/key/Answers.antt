use Rattle.lemmas.proofs.{◌<◌, ℕ, List, get_or, subst, sym}
use Rattle.loop_keys.specs.{job_graph, job_of, key_count}
use Rattle.loop_keys.proofs.KeyLaws.{key_read}
use Rattle.loop_keys.proofs.reading.key.Goals as goal

pub returns-clause-small : goal.returns-clause-small
returns-clause-small g c =
    subst (λ (ks : List ℕ). get_or ks c.args.site 0 < key_count (job_graph (job_of c.args.at.now.job.now))) (sym c.as_slice.ensures)
    (key_read (job_graph (job_of c.args.at.now.job.now)) c.args.at.now.under c.args.at.now.row.now c.requires.row c.args.site c.requires.site 0)
