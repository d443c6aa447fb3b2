pub mod ProbeLines
