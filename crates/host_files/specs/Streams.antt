-- What takes the bytes of a new file.
use Rattle.std.specs.Prelude.{ℕ, Bool, List, Option, Some, None, true, false}
use Rattle.host_files.specs.declared.streams.Taker.{Taker}
use Rattle.host_files.specs.declared.streams.Taker.TheVariants.{File, Output, Error}
use Rattle.host_files.specs.declared.streams.Stream.{Stream}
use Rattle.host_files.specs.declared.streams.Stream.TheVariants as stream
use Rattle.host_files.specs.declared.taken.TakenStreams.{TakenStreams}

-- what a file of its own holds; nothing is told of a standard stream
abbrev pub contents_of : {F : Type 0} → (F → Option (List ℕ)) → Taker F → Option (List ℕ)
contents_of contents (File told) = contents told.file
contents_of contents (Output told) = None
contents_of contents (Error told) = None

-- the first of two streams that is not taken
abbrev free_of : Bool → Bool → Option Stream
free_of false error = Some stream.Output
free_of true false = Some stream.Error
free_of true true = None

-- the first of standard output and standard error that is neither OUT nor MAP
abbrev pub free_stream : TakenStreams → Option Stream
free_stream taken = free_of taken.output taken.error
