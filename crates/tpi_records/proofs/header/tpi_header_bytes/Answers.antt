use Rattle.tpi_records.proofs.WrittenLaws.{heads_records}
use Rattle.tpi_records.proofs.header.tpi_header_bytes.Goals as goal

pub returns-clause-read_back : goal.returns-clause-read_back
returns-clause-read_back c = heads_records c.args.count c.args.bytes c.header_of.result c.header_of.ensures c.requires c.ranges.bytes.fits
