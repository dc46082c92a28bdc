use Rattle.ft_shared.proofs.CountedScan.{counted_found, found_counted, free_and_found, found_as}
use Rattle.ft_shared.proofs.free.a_scan_counts_what_it_found.Goals as goal

pub returns-clause-found : goal.returns-clause-found
returns-clause-found c account segment = (counted_found account segment, found_counted account segment)

pub returns-clause-free : goal.returns-clause-free
returns-clause-free c = free_and_found

pub returns-clause-same : goal.returns-clause-same
returns-clause-same c = found_as
