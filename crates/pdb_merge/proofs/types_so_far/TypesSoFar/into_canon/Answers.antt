use Rattle.std.proofs.Common.{◌≡◌, ap}
use Rattle.pdb_merge.specs.Merging.{MergeView}
use Rattle.pdb_merge.proofs.types_so_far.TypesSoFar.into_canon.Goals as goal

pub returns-clause-value : goal.returns-clause-value
returns-clause-value g c =
    let types : c.self.inside.table ≡ c.args.self.types = ap (λ (m : MergeView). m.types) c.self.view_is in
    rw types at c.in_ok-canon.ensures.value

pub returns-clause-followed : goal.returns-clause-followed
returns-clause-followed g c =
    let types : c.self.inside.table ≡ c.args.self.types = ap (λ (m : MergeView). m.types) c.self.view_is in
    let maps : g.K.KeepMaps.maps c.self.inside.maps ≡ c.args.self.maps = ap (λ (m : MergeView). m.maps) c.self.view_is in
    rw (types, maps) at c.in_ok-canon.ensures.maps
