pub mod WholeRequests
