use Rattle.show_commands.proofs.streams.ShowStreamsShow.text_of.Goals as goal

pub free_blocks_at-requires-clause-whole : goal.free_blocks_at-requires-clause-whole
free_blocks_at-requires-clause-whole g c = λ file known. rw c.superblock-superblock.ensures (c.requires.layout file known).superblock.whole
