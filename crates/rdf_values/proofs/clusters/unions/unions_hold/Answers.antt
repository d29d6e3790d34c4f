use Rattle.rdf_values.proofs.UnionLemmas as law
use Rattle.rdf_values.proofs.clusters.unions.unions_hold.Goals as goal

pub returns : goal.returns
returns c =
    record {
      union_is_one = law.union_is_one;
      none_is_neutral = law.none_is_neutral;
      order_does_not_matter = law.order_does_not_matter;
      unite_from_either_side = law.unite_from_either_side;
      drawn_lists_unite = law.drawn_lists_unite;
    }
