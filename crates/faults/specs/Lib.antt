pub mod ChartFaults
pub mod LineFaults
pub mod OutputFaults
