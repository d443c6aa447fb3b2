-- Claims: what is claimed of the definitions, each claim a statement that can be read without its proof. The proofs are in proofs/.
--
--   Starred       the starred cases of 01, the five wrong cards and the three errors that look harmless: one table
--   Lengths       the length rule, over the number of length bytes
--   NoSecond      no second outcome fits a promise of our form
--   Refusals      a refused call changes no byte
--   Words         each status word is one that 01 lists for the command
--   Invariants    what stays true over every run from an accepted power-on
--   Working       what the work area holds: the pieces of a chain, joined, or a whole answer; zeros behind
--   ReadBack      an object stored is what GET DATA and GET RESPONSEs hand back
--   Secrecy       a found card tells its finder nothing of the PIN, the PUK and the PIN-read objects
--   Instances     the premises of these claims can be met: a run for each
pub mod Starred
pub mod Lengths
pub mod NoSecond
pub mod Refusals
pub mod Words
pub mod Invariants
pub mod Working
pub mod ReadBack
pub mod Secrecy
pub mod Instances
