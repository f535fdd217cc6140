use Rattle.text_scan.proofs.ListingOnce.{listing_only, refuses_only}
use Rattle.text_scan.proofs.listing.read_list.Goals as goal

pub returns-clause-only : goal.returns-clause-only
returns-clause-only c labels listing = listing_only _ labels _ c.read_lines.ensures listing

pub returns-clause-fault : goal.returns-clause-fault
returns-clause-fault c e fault other = refuses_only _ e _ c.read_lines.ensures fault other
