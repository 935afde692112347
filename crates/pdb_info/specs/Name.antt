-- How contracts see the names of streams.
use Rattle.pdb_info.specs.Names.{NamedStream}
use Rattle.pdb_info.specs.declared.names.Name.{Name}

-- how contracts see a stream with its name
abbrev pub named : Name → NamedStream
named n = record { text = n.text.now; stream = n.stream }
