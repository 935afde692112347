use Rattle.std.proofs.Common.{◌≡◌, ap}
use Rattle.std.proofs.lemmas.Result.{err_from_is_err_and}
use Rattle.pdb_merge.specs.Merging.{MergeView}
use Rattle.pdb_merge.proofs.MemoryLaws.{pdb_named, join_named}
use Rattle.pdb_merge.proofs.RefusedLaws.{fault_hinders, union_hinders}
use Rattle.pdb_merge.proofs.UnionLaws.{union_within, not_added}
use Rattle.pdb_merge.proofs.types_so_far.TypesSoFar.add_stream.Goals as goal

pub returns-then-add_stream-clause-value : goal.returns-then-add_stream-clause-value
returns-then-add_stream-clause-value g c =
    let types : c.self.inside.table ≡ c.args.self.now.types = ap (λ (m : MergeView). m.types) c.self.view_is in
    let maps : g.K.KeepMaps.maps c.self.inside.maps ≡ c.args.self.now.maps = ap (λ (m : MergeView). m.maps) c.self.view_is in
    let all = c.add_stream.ensures.added c.if-add_stream.true in
    let added = rw (types, maps) at all.added in
    record { records = all.records; has = (all.has, all.types); added = record { types = added.value; front = added.front; mapped = added.mapped } }

pub returns-then-add_stream-clause-within : goal.returns-then-add_stream-clause-within
returns-then-add_stream-clause-within g c =
    let all = c.add_stream.ensures.added c.if-add_stream.true in
    union_within c.self.inside.table all.records c.add_stream.new.self c.self.inside.limit all.added.within all.added.value

pub returns-in_err-add_with_maps-clause-named : goal.returns-in_err-add_with_maps-clause-named
returns-in_err-add_with_maps-clause-named g c =
    let p = err_from_is_err_and c.from_residual-in_err-add_with_maps.result c.from_residual-in_err-add_with_maps.ensures.1 in
    rw p.1 (join_named c.in_err-add_with_maps.field-0.0 p.0 p.2)

pub returns-clause-value : goal.returns-clause-value
returns-clause-value g c =
    let types : c.self.inside.table ≡ c.args.self.now.types = ap (λ (m : MergeView). m.types) c.self.view_is in
    let maps : g.K.KeepMaps.maps c.self.inside.maps ≡ c.args.self.now.maps = ap (λ (m : MergeView). m.maps) c.self.view_is in
    let same = not_added c.add_stream.result c.add_stream.ensures.kept c.if-add_stream.false in
    let added = rw (same.0, same.1, types, maps) at c.in_ok-add_with_maps.ensures.added in
    record { records = c.in_ok-types.types; has = c.in_ok-types.ensures.types; added = record { types = added.value; front = added.front; mapped = added.mapped } }

pub returns-clause-within : goal.returns-clause-within
returns-clause-within g c =
    let same = not_added c.add_stream.result c.add_stream.ensures.kept c.if-add_stream.false in
    let added = rw same.0 at c.in_ok-add_with_maps.ensures.added in
    union_within c.self.inside.table c.in_ok-types.types c.add_with_maps.new.self c.self.inside.limit added.within added.value

pub returns-in_err-types-clause-named : goal.returns-in_err-types-clause-named
returns-in_err-types-clause-named g c =
    let p = err_from_is_err_and c.from_residual.result c.from_residual.ensures.1 in
    rw p.1 (pdb_named c.in_err-types.field-0.0 p.0 p.2)

pub returns-in_err-types-clause-refused : goal.returns-in_err-types-clause-refused
returns-in_err-types-clause-refused g c =
    let inner = c.in_err-types.field-0.0 in
    let p = err_from_is_err_and c.from_residual.result c.from_residual.ensures.1 in
    rw p.1 (fault_hinders c.args.self.now.types c.args.self.now.limit c.args.stream.now inner p.0 p.2 c.in_err-types.ensures.refused)

pub returns-in_err-add_with_maps-clause-refused : goal.returns-in_err-add_with_maps-clause-refused
returns-in_err-add_with_maps-clause-refused g c =
    let types : c.self.inside.table ≡ c.args.self.now.types = ap (λ (m : MergeView). m.types) c.self.view_is in
    let limit : c.self.inside.limit ≡ c.args.self.now.limit = ap (λ (m : MergeView). m.limit) c.self.view_is in
    let same = not_added c.add_stream.result c.add_stream.ensures.kept c.if-add_stream.false in
    let p = err_from_is_err_and c.from_residual-in_err-add_with_maps.result c.from_residual-in_err-add_with_maps.ensures.1 in
    rw (p.1, ← types, ← limit)
    (union_hinders c.self.inside.table c.in_ok-types.types c.self.inside.limit c.args.stream.now c.in_err-add_with_maps.field-0.0 p.0 c.in_ok-types.ensures.types p.2 (rw same.0 at c.in_err-add_with_maps.ensures.large))
