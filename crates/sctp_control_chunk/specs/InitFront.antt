-- The fields that INIT and INIT ACK begin with, as the program holds them.
use Rattle.std.specs.Prelude.{ℕ, List, []}
use Rattle.sctp_control_chunk.specs.declared.init.InitFields.{InitFields}
use Rattle.sctp_chunk.specs.Chunk.{InitTree}
use Rattle.sctp_chunk.specs.Written.{init_fields}
use Rattle.sctp_chunk.specs.Grammar.{FitsInit}

abbrev pub front_tree : InitFields → InitTree
front_tree f = record {
  initiate_tag = f.initiate_tag;
  a_rwnd = f.a_rwnd;
  nbr_outbound_streams = f.nbr_outbound_streams;
  nbr_inbound_streams = f.nbr_inbound_streams;
  initial_tsn = f.initial_tsn.0;
  parameters = [];
}

abbrev pub init_front : InitFields → List ℕ
init_front f = init_fields (front_tree f)

abbrev pub FitsFront : InitFields → Type 0
FitsFront f = FitsInit (front_tree f)
