pub mod Airflow
pub mod AirflowPieces
