use Rattle.std.proofs.Common.{refl}
use Rattle.std.specs.Fmt.{digits}
use Rattle.sharing.specs.Lists.{made}
use Rattle.ledger.specs.Limits.{field_outside}
use Rattle.ledger.specs.SetOff.{major_share}
use Rattle.ledger.specs.Margins.{befores, afters, additional, balance, needed, spare, called}
use Rattle.ledger.specs.Files.{records_of}
use Rattle.ledger.specs.Texts.{report_text, refusal_text}
use Rattle.ledger.proofs.theorems.examples_stand.Goals as goal

pub returns : goal.returns
unfolding digits made field_outside major_share befores afters additional balance needed spare called records_of report_text refusal_text
returns c = refl
