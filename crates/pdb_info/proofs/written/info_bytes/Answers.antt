use Rattle.pdb_info.proofs.WrittenLaws.{info_is, info_back}
use Rattle.pdb_info.proofs.written.info_bytes.Goals as goal

pub returns-clause-value : goal.returns-clause-value
returns-clause-value c =
    info_is c.args.settings.now.age c.age.result c.args.settings.now.guid c.guid.result c.guid_bytes.result c.stream_of.result c.stream_of.ensures.value c.guid_bytes.ensures.value c.guid.ensures.value c.age.ensures

pub returns-clause-read_back : goal.returns-clause-read_back
returns-clause-read_back c =
    info_back c.args.settings.now.age c.age.result c.args.settings.now.guid c.guid.result c.guid_bytes.result c.stream_of.result c.stream_of.ensures.value c.guid_bytes.ensures.value c.guid.ensures.value c.age.ensures
    c.stream_of.ensures.long c.guid_bytes.ensures.undone c.age.type_inv
