use Rattle.std.proofs.Common.{rules, refl, string_bytes}
use Rattle.sctp_c_records.specs.Describe.{written, short, refused}
use Rattle.sctp_c_records.proofs.describe.describe_packet.Goals as goal

pub returns-in-Err : goal.returns-in-Err
returns-in-Err c = refused c.in-Err.fault c.in-Err.ensures.refused (search rules)

pub returns-then-put_bytes : goal.returns-then-put_bytes
returns-then-put_bytes c = written (string_bytes c.in-Ok.text) c.in-Ok.ensures.text (search rules) (search rules) refl

pub returns : goal.returns
returns c = short (string_bytes c.in-Ok.text) c.in-Ok.ensures.text (search rules) (search rules) refl
