-- What stream 1 of a file says of streams and features.
use Rattle.std.specs.Prelude.{ℕ, ◌≡◌, List, [], ◌∷◌, ◌++◌, map}
use Rattle.std.specs.List.{flat_map}
use Rattle.byte_fields.specs.Check.{Refuses, first_failing}
use Rattle.pdb_info.specs.Fault.{info_number}
use Rattle.pdb_info.specs.Info.{InfoView, HasInfo, info_checks}
use Rattle.pdb_info.specs.declared.fault.InfoFault.{InfoFault}
use Rattle.pdb_info.specs.declared.fault.InfoFault.TheVariants.{Memory}
use Rattle.pdbmerge_c.specs.declared.fault.Fault.{Fault}
use Rattle.pdbmerge_c.specs.Fault.{Tells}

-- these are the numbers of the streams that have a name, in the order of the buckets
abbrev pub AreNamedStreams : List ℕ → List ℕ → Type 0
AreNamedStreams stream numbers =
    (info : InfoView) × HasInfo stream info × (numbers ≡ map (λ name. name.stream) info.names)

-- these are their names in the same order, each with a NUL behind it
abbrev pub AreStreamNames : List ℕ → List ℕ → Type 0
AreStreamNames stream bytes =
    (info : InfoView)
    × HasInfo stream info
    × (bytes ≡ flat_map (λ name. name.text ++ 0 ∷ []) info.names)

-- these are the feature codes
abbrev pub AreFeatures : List ℕ → List ℕ → Type 0
AreFeatures stream features = (info : InfoView) × HasInfo stream info × (features ≡ info.features)

-- this is the first fault of stream 1; or memory ran out, and the stream has no fault
abbrev pub IsFaultOfInfoStream : List ℕ → InfoFault → Type 0
IsFaultOfInfoStream stream = Refuses Memory (first_failing (info_checks stream))

-- what is told is such a fault
abbrev pub RefusesInfoStream : List ℕ → Fault → Type 0
RefusesInfoStream stream = Tells (IsFaultOfInfoStream stream) info_number
